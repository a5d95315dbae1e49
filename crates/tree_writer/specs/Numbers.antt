-- Page numbers of a tree's pages (docs/FORMAT.md, "Layout of a written file").
use Rattle.std.specs.Prelude.{ℕ, ◌+◌, nat_le, nat_lt, ◌&&◌, if◌then◌else◌}

-- number k from `start` on that is not `lock`, k from 0; `lock` is 0 where no number is left out
abbrev pub number_of : ℕ → ℕ → ℕ → ℕ
number_of start lock k = if nat_le start lock && nat_le lock (start + k) then start + k + 1 else start + k
