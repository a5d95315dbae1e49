use Rattle.std.proofs.Common.{◌≡◌, ◌≤◌, ◌<◌, ◌-◌, ℕ, false, get_or}
use Rattle.cell_reader.proofs.accepted.Accepted.is_free.Given as goal

abbrev pub invariant-loop-at : goal.invariant-loop-at
invariant-loop-at l = record {
  from : l.start ≤ l.at;
  to : l.at ≤ l.end;
  unset : (k : ℕ) → l.start ≤ k → k < l.at → get_or l.self k false ≡ false;
}

abbrev pub decreases-loop-at : goal.decreases-loop-at
decreases-loop-at l = l.end - l.at
