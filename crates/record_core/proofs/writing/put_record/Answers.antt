use Rattle.std.proofs.Common.{◌≡◌, ◌∙◌, ◌+◌, ℕ, List, ap, length}
use Rattle.varint_core.specs.Shortest.{spell}
use Rattle.record_core.specs.Shortest.{header_len, types_of, bodies_of, put_at, record_bytes}
use Rattle.record_core.proofs.Rows.{put_three}
use Rattle.record_core.proofs.writing.put_record.Goals as goal

pub returns-clause-after : goal.returns-clause-after
unfolding record_bytes
returns-clause-after g c =
    let vs = g.F.Fields.values c.args.values.now in
    let n : c.header_len.result ≡ header_len (length (types_of vs)) = c.header_len.ensures.value ∙ ap header_len c.types_len.ensures.value in
    let piece : c.as_slice.result.now ≡ spell c.header_len.result = c.as_slice.ensures.value ∙ c.write_varint-size.ensures.exact in
    let size : c.as_slice.result.now ≡ spell (header_len (length (types_of vs))) = piece ∙ ap spell n in
    put_three c.args.to.now (spell (header_len (length (types_of vs)))) (types_of vs) (bodies_of vs) c.put-types.new.to c.put_types-bodies.new.to c.put_bodies.new.to
    c.put-types.result c.put_types-bodies.result c.requires.room
    (c.put-types.ensures.after ∙ ap (put_at c.args.to.now 0) size) (c.put-types.ensures.end ∙ ap (λ (p : List ℕ). 0 + length p) size)
    c.put_types-bodies.ensures.after c.put_types-bodies.ensures.end c.put_bodies.ensures.after
