use Rattle.std.proofs.Common.{◌∙◌, Bool, subst, sym, take}
use Rattle.schema_texts.specs.Readings.{IsReading, table_names}
use Rattle.schema_texts.proofs.Names.{read_more}
use Rattle.schema_texts.proofs.rows.read_next.Goals as goal

pub returns : goal.returns
returns c was =
    read_more c.args.survey.now c.args.pages c.args.rows.now c.args.number c.index-rows-number.result c.args.names.now c.meet.new.names
    c.args.readings.now.items c.push.new.self.items c.in_ok-reading.reading c.requires.there c.index-rows-number.is (sym c.is_table.ensures ∙ c.if-not-is_table.false) c.in_ok-reading.ensures.number c.in_ok-reading.ensures.root c.in_ok-push.ensures.items was
    (λ known. subst (λ (d : Bool). IsReading c.args.survey.now c.args.pages c.index-rows-number.result d c.in_ok-reading.reading.reading)
    (c.in_ok-double.ensures.met (table_names (take c.args.number c.args.rows.now)) known) c.in_ok-reading.ensures.reading) c.in_ok-double.ensures.known
