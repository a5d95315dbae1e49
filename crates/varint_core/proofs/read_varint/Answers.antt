use Rattle.std.proofs.Common.{◌≡◌, ◌-◌, ◌∙◌, ap, arith, ℕ, List, take, take_all, length, length-drop, drop}
use Rattle.varint_core.specs.Varint.{varint_at}
use Rattle.varint_core.proofs.Laws.{read_found, read_only, read_none}
use Rattle.varint_core.proofs.read_varint.Goals as goal

-- a slice from a place on is all that is behind it
behind : (bytes : List ℕ) (at : ℕ) → take (length bytes - at) (drop at bytes) ≡ drop at bytes
behind bytes at = take_all (length bytes - at) (drop at bytes) (omega (arith, length-drop at bytes))

pub returns-clause-found : goal.returns-clause-found
returns-clause-found c = read_found _ _ (c.varint_of.ensures.exact ∙ ap varint_at (behind c.args.bytes.now c.args.at))

pub returns-clause-only : goal.returns-clause-only
returns-clause-only c = read_only _ _ (c.varint_of.ensures.exact ∙ ap varint_at (behind c.args.bytes.now c.args.at))

pub returns-clause-none : goal.returns-clause-none
returns-clause-none c = read_none _ _ (c.varint_of.ensures.exact ∙ ap varint_at (behind c.args.bytes.now c.args.at))
