use Rattle.std.proofs.Common.{◌≡◌, ◌+◌, ◌-◌, ◌<◌, ◌≤◌, ℕ, length, get_or}
use Rattle.page_access.specs.Memory.{sparse_byte}
use Rattle.page_access.proofs.sparse.copy_sparse.Given as goal

abbrev pub invariant-loop-done : goal.invariant-loop-done
invariant-loop-done l = record {
  inside : l.done ≤ length l.to;
  same_length : length l.to ≡ length l.initial.to;
  copied : (k : ℕ) → k < l.done → get_or l.to k 0 ≡ sparse_byte l.page_size l.pages (l.at + k);
}

abbrev pub decreases-loop-done : goal.decreases-loop-done
decreases-loop-done l = length l.initial.to - l.done
