use Rattle.std.proofs.Common.{◌≡◌, ℕ, List, ◌++◌, nat_eq, ◌≤◌, ◌<◌, ◌+◌, ◌-◌, ◌*◌, arith, ap, sym, ◌∙◌, refl, length, take, drop, subst, length-take}
use Rattle.std.specs.Prelude.{if◌then◌else◌, replicate}
use Rattle.byteorder.specs.Endian.{big_bytes}
use Rattle.tree_writer.specs.Entry.{entry_at}
use Rattle.tree_writer.specs.Numbers.{number_of}
use Rattle.tree_writer.specs.Cells.{over_count, kept_of}
use Rattle.cell_reader.specs.Cell.{local_len}
use Rattle.tree_writer.proofs.Chaining.{over_inside, over_written}
use Rattle.tree_writer.proofs.sheets.Sheet.write_over.Goals as goal

pub part_of-content-requires : goal.part_of-content-requires
part_of-content-requires g c =
    let self = c.args.self.now in
    let e = entry_at (g.N.Entries.entries self.entries.now) c.chain-chain.result.entry in
    let chain = c.chain-chain.ensures.chain in
    let r = c.args.k - c.chain-chain.result.first in
    let lt : r < over_count self.usable self.kind e = omega (arith, chain.low, chain.high, chain.many) in
    let kept = c.local_size-kept.ensures.value ∙ ap (local_len self.kind self.usable) c.payload_len-len.ensures in
    omega (arith, over_inside self.usable self.kind e r c.requires.ready.least lt, kept, c.payload_len-len.ensures, length-take c.payload_len-len.result c.fetch.new.scratch)

pub returns-clause-bytes : goal.returns-clause-bytes
returns-clause-bytes g c =
    let self = c.args.self.now in
    let number = number_of c.args.numbers.now.start c.args.numbers.now.lock in
    let e = entry_at (g.N.Entries.entries self.entries.now) c.chain-chain.result.entry in
    let chain = c.chain-chain.ensures.chain in
    let r = c.args.k - c.chain-chain.result.first in
    let kept : c.local_size-kept.result ≡ kept_of self.usable self.kind e.bytes = c.local_size-kept.ensures.value ∙ ap (local_len self.kind self.usable) c.payload_len-len.ensures in
    let front : take c.payload_len-len.result c.fetch.new.scratch ≡ e.bytes = ap (λ n. take n c.fetch.new.scratch) c.payload_len-len.ensures ∙ c.fetch.ensures.held in
    let content : c.part_of-content.result.now ≡ take (self.usable - 4) (drop (kept_of self.usable self.kind e.bytes + r * (self.usable - 4)) e.bytes)
    = c.part_of-content.ensures
    ∙ ap (λ m. take (self.usable - 4) (drop (m + r * (self.usable - 4)) (take c.payload_len-len.result c.fetch.new.scratch))) kept
    ∙ ap (λ (t : List ℕ). take (self.usable - 4) (drop (kept_of self.usable self.kind e.bytes + r * (self.usable - 4)) t)) front in
    over_written self.usable self.kind number e c.chain-chain.result.first c.args.k c.part_of-content.result.now c.put_over.new.to c.next_number.result
    chain.low (omega (arith, chain.high, chain.many)) content
    (c.next_number.ensures ∙ ap (λ n. if nat_eq (n - 1 - r) 0 then 0 else number (c.args.k + 1)) chain.many)
    (c.put_over.ensures ∙ ap (λ n. big_bytes 4 c.next_number.result ++ (c.part_of-content.result.now ++ replicate (n - 4 - length c.part_of-content.result.now) 0)) c.requires.size)
    ∙ sym (c.chain-chain.ensures.pages number)
