use Rattle.std.proofs.Common.{◌≡◌, ℕ, List, ◌∙◌, ap, length, map, subst, sym}
use Rattle.std.specs.List.{AllByRecursion, flat_map}
use Rattle.std.proofs.lemmas.List.{length-map}
use Rattle.std.proofs.lemmas.Option.{IfSome_then}
use Rattle.page_access.specs.Files.{file_of}
use Rattle.page_lists.specs.Table.{all_moved, unused}
use Rattle.page_walk.specs.Bounds.{ArePages}
use Rattle.page_walk.specs.InTurn.{IsSmallTurn, turn_of}
use Rattle.page_walk.specs.Turns.{turns_on}
use Rattle.tree_uses.specs.Trees.{HaveTurns, chains_in, pages_in, split_turns, tree_of, turns_in, turns_of}
use Rattle.tree_uses.proofs.Splits.{pages_are, split_all, split_are, split_chains, split_each, split_len}
use Rattle.tree_uses.proofs.reads.read_trees.Goals as goal

pub read_turns-requires-clause-pages : goal.read_turns-requires-clause-pages
read_turns-requires-clause-pages g c =
    subst (ArePages c.args.geo.now.pages) (sym (c.deref.ensures.value ∙ c.in_ok-pages.ensures))
    (pages_are c.args.geo.now.pages (map tree_of c.args.trees.now) c.requires.trees)

pub returns-clause-value : goal.returns-clause-value
returns-clause-value g c =
    let trees = map tree_of c.args.trees.now in
    let u = unused c.args.table.now in
    let same : c.deref.result.now ≡ pages_in trees = c.deref.ensures.value ∙ c.in_ok-pages.ensures in
    IfSome_then (g.S.Source.bytes c.args.src.now)
    {P = λ all. map turn_of c.in_ok-turns.turns.items ≡ turns_on (file_of all c.args.geo.now) c.deref.result.now u}
    {Q = λ all. map turns_of c.in_ok-split_turns.field-0.items ≡ turns_in (file_of all c.args.geo.now) trees u}
    c.in_ok-turns.ensures.value
    (λ all p. c.in_ok-split_turns.ensures ∙ ap (split_turns trees) (p ∙ ap (λ (ps : List ℕ). turns_on (file_of all c.args.geo.now) ps u) same)
    ∙ split_are (file_of all c.args.geo.now) trees u)

pub returns-clause-moved : goal.returns-clause-moved
returns-clause-moved g c =
    let turns = map turn_of c.in_ok-turns.turns.items in
    let same : c.deref.result.now ≡ pages_in (map tree_of c.args.trees.now) = c.deref.ensures.value ∙ c.in_ok-pages.ensures in
    let len : length turns ≡ length (pages_in (map tree_of c.args.trees.now)) =
    length-map c.in_ok-turns.turns.items turn_of ∙ c.in_ok-turns.ensures.len ∙ ap length same in
    c.in_ok-turns.ensures.moved ∙ ap (λ (ps : List ℕ). all_moved ps 4 c.args.table.now)
    (sym (ap (flat_map chains_in) c.in_ok-split_turns.ensures ∙ split_chains (map tree_of c.args.trees.now) turns len))

pub returns-clause-small : goal.returns-clause-small
returns-clause-small g c =
    subst (AllByRecursion (AllByRecursion (IsSmallTurn c.args.geo.now.usable c.args.geo.now.pages))) (sym c.in_ok-split_turns.ensures)
    (split_all (IsSmallTurn c.args.geo.now.usable c.args.geo.now.pages) (map tree_of c.args.trees.now) (map turn_of c.in_ok-turns.turns.items)
    c.in_ok-turns.ensures.small)

pub returns-clause-len : goal.returns-clause-len
returns-clause-len g c =
    sym (length-map c.in_ok-split_turns.field-0.items turns_of) ∙ ap length c.in_ok-split_turns.ensures
    ∙ split_len (map tree_of c.args.trees.now) (map turn_of c.in_ok-turns.turns.items) ∙ length-map c.args.trees.now tree_of

pub returns-clause-each : goal.returns-clause-each
returns-clause-each g c =
    let trees = map tree_of c.args.trees.now in
    let turns = map turn_of c.in_ok-turns.turns.items in
    let same : c.deref.result.now ≡ pages_in trees = c.deref.ensures.value ∙ c.in_ok-pages.ensures in
    let len : length turns ≡ length (pages_in trees) = length-map c.in_ok-turns.turns.items turn_of ∙ c.in_ok-turns.ensures.len ∙ ap length same in
    subst (HaveTurns trees) (sym c.in_ok-split_turns.ensures) (split_each trees turns len)
