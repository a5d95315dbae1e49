use Rattle.std.proofs.Common.{◌∙◌, ◌++◌, [], ap, sym, take, length, get_or}
use Rattle.std.proofs.lemmas.List.{append-nil}
use Rattle.page_access.proofs.Gains.{front_as, front_end, front_out, front_start, front_step}
use Rattle.db_builder.specs.Layout.{gap}
use Rattle.db_builder.proofs.Paging.{page_is}
use Rattle.db_builder.proofs.writes.put_one.Goals as goal

pub returns-in_err-put_gap-clause-writes : goal.returns-in_err-put_gap-clause-writes
returns-in_err-put_gap-clause-writes g c = λ pages are.
    front_out (get_or pages c.args.j []) c.from_residual.ensures.0
    (front_as (ap (λ n. gap (length c.args.page.now) n ++ get_or pages c.args.j []) (sym c.number.ensures)) (front_start _ _ _))
    c.in_err-put_gap.ensures.writes

pub returns-in_err-put-clause-writes : goal.returns-in_err-put-clause-writes
returns-in_err-put-clause-writes g c = λ pages are.
    let page = get_or pages c.args.j [] in
    let same = page_is _ _ c.args.plan.now c.args.first c.args.j pages (take 100 c.put_gap.new.page) c.write_next-held.new.to are c.write_next-held.ensures.tree c.write_next-held.ensures.schema in
    front_out [] c.from_residual-in_err-put.ensures.0
    (front_as (sym same ∙ sym (append-nil c.write_next-held.new.to))
    (front_step page (front_as (ap (λ n. gap (length c.args.page.now) n ++ page) (sym c.number.ensures)) (front_start _ _ _)) c.in_ok-put_gap.ensures.writes))
    c.in_err-put.ensures.writes

pub returns-clause-writes : goal.returns-clause-writes
returns-clause-writes g c = λ pages are.
    let page = get_or pages c.args.j [] in
    let same = page_is _ _ c.args.plan.now c.args.first c.args.j pages (take 100 c.put_gap.new.page) c.write_next-held.new.to are c.write_next-held.ensures.tree c.write_next-held.ensures.schema in
    front_end (front_step []
    (front_as (sym same ∙ sym (append-nil c.write_next-held.new.to))
    (front_step page (front_as (ap (λ n. gap (length c.args.page.now) n ++ page) (sym c.number.ensures)) (front_start _ _ _)) c.in_ok-put_gap.ensures.writes))
    c.in_ok-put.ensures.writes)
