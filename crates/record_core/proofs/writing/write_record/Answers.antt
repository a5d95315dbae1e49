use Rattle.std.proofs.Common.{◌≡◌, ◌∙◌, ◌++◌, ℕ, List, length, ap, sym, subst, take}
use Rattle.record_core.specs.declared.values.Value.{Value}
use Rattle.record_core.specs.Spelling.{IsRecord, IsShortestRecord}
use Rattle.record_core.specs.Shortest.{record_bytes, put_at}
use Rattle.record_core.proofs.Rows.{put_front}
use Rattle.record_core.proofs.Written.{record_is}
use Rattle.record_core.proofs.Least.{record_shortest}
use Rattle.record_core.proofs.writing.write_record.Goals as goal

-- what stands at the front is the record
front : (old new : List ℕ) (vs : List Value) (n : ℕ) → new ≡ put_at old 0 (record_bytes vs) → n ≡ length (record_bytes vs) → take n new ≡ record_bytes vs
front old new vs n after end = ap (take n) after ∙ put_front old (record_bytes vs) n end

pub returns-clause-found : goal.returns-clause-found
returns-clause-found g c =
    λ rest.
    let vs = g.F.Fields.values c.args.values.now in
    let is = front c.args.to.now c.put_record.new.to vs c.put_record.result c.put_record.ensures.after c.put_record.ensures.end in
    subst (λ (s : List ℕ). IsRecord (s ++ rest) vs) (sym is) (record_is vs rest c.requires.fit c.put_record.ensures.stored)

pub returns-clause-shortest : goal.returns-clause-shortest
returns-clause-shortest g c =
    let vs = g.F.Fields.values c.args.values.now in
    let is = front c.args.to.now c.put_record.new.to vs c.put_record.result c.put_record.ensures.after c.put_record.ensures.end in
    subst (λ (s : List ℕ). IsShortestRecord s vs) (sym is) (record_shortest vs c.requires.fit c.put_record.ensures.stored)
