use Rattle.std.proofs.Common.{◌≡◌, ◌∙◌, ℕ, List, ap, arith, length, min, take}
use Rattle.std.specs.Prelude.{codes}
use Rattle.std.proofs.lemmas.List.{take_min}
use Rattle.table_shape.specs.Names.{begins_as_automatic, same_name}
use Rattle.table_shape.proofs.names.begins_as_automatic.Goals as goal

pub returns : goal.returns
unfolding begins_as_automatic
returns c =
    let turned : c.min.result ≡ min 17 (length c.args.name.now) = omega (arith, c.min.ensures) in
    c.same_name.ensures ∙ ap (λ (t : List ℕ). same_name t (codes "sqlite_autoindex_"))
    (ap (λ (n : ℕ). take n c.args.name.now) turned ∙ take_min 17 c.args.name.now)
