use Rattle.std.proofs.Common.{◌≡◌, drop, nat_lt, nat_le}
use Rattle.std.specs.Prelude.{find, ◌&&◌}
use Rattle.std.specs.List.{list_all}
use Rattle.page_size.specs.declared.scores.Score.{Score}
use Rattle.page_size.specs.Score.{winner}
use Rattle.page_size.proofs.scores.best.Given as goal

abbrev pub invariant-loop-score : goal.invariant-loop-score
invariant-loop-score l =
    find (λ (s : Score). nat_lt 0 s.pages && list_all (λ (t : Score). nat_le t.pages s.pages) l.scores) (drop l.score-index l.scores)
    ≡ winner l.scores
