use Rattle.std.proofs.Common.{false, ℕ, ◌+◌, ◌*◌, ◌∷◌, [], ◌∙◌, ap, length, map, drop, get_or, subst, arith, length-drop}
use Rattle.std.proofs.lemmas.List.{drop_all, drop_more, length-map, length-replicate, map-append}
use Rattle.page_access.specs.Cache.{HasAll}
use Rattle.page_access.proofs.Keeps.{not_failed}
use Rattle.page_lists.proofs.Uses.{Moves-append}
use Rattle.page_walk.specs.InTurn.{turn_of}
use Rattle.page_walk.specs.Turns.{ReadsEach}
use Rattle.page_walk.proofs.InTurn.{at_err, chains_front, reads_weaker, stepping_front, stepping_front_all, stepping_none, stepping_more, stepping_value, stepping_reads, stepping_full}
use Rattle.page_walk.proofs.turns.read_turns.Goals as goal

pub loop-page-init : goal.loop-page-init
loop-page-init g c = record {
  marks = ap length c.in_ok-accepted.ensures ∙ length-replicate c.args.geo.now.usable false;
  stepping = stepping_none g.S.Source _ _ _ _ (map turn_of c.in_ok-turns.turns.items) (ap (map turn_of) c.in_ok-turns.ensures.items) c.requires.cached;
}

pub loop-page-preserved : goal.loop-page-preserved
loop-page-preserved g c = record {
  marks = c.turn_page.ensures.marks ∙ c.loop-page.invariant.marks;
  stepping = stepping_more (record { src = c.turn_page.new.src; cache = c.turn_page.new.cache; table = c.turn_page.new.table })
      (get_or c.args.pages.now c.loop-page.page-index 0) (drop (c.loop-page.page-index + 1) c.args.pages.now) (turn_of c.in_ok-turn.turn)
      (map turn_of c.push.new.self.items) c.loop-page.invariant.stepping (omega arith)
      (drop_more c.args.pages.now c.loop-page.page-index 0 c.loop-page-test.true)
      (ap (map turn_of) c.in_ok-push.ensures.items ∙ map-append turn_of c.loop-page.turns.items (c.in_ok-turn.turn ∷ []))
      (record {
        kept = c.turn_page.ensures.kept;
        steady = not_failed c.in_ok-turn.ensures.cause.steady;
        cached = c.turn_page.ensures.cached;
        moves = c.turn_page.ensures.moves;
        moved = c.in_ok-turn.ensures.moved;
        good = c.in_ok-turn.ensures.small;
        read = c.in_ok-turn.ensures.reads;
        full = c.in_ok-turn.ensures.full;
        value = c.in_ok-turn.ensures.value;
      });
}

pub returns-in_err-turn-clause-moves : goal.returns-in_err-turn-clause-moves
returns-in_err-turn-clause-moves g c =
    Moves-append 4 c.args.table.now c.loop-page.table c.turn_page.new.table (omega arith) c.loop-page.invariant.stepping.moves c.turn_page.ensures.moves

pub returns-in_err-push-clause-moves : goal.returns-in_err-push-clause-moves
returns-in_err-push-clause-moves g c =
    Moves-append 4 c.args.table.now c.loop-page.table c.turn_page.new.table (omega arith) c.loop-page.invariant.stepping.moves c.turn_page.ensures.moves

pub returns-in_err-turn-clause-reads : goal.returns-in_err-turn-clause-reads
returns-in_err-turn-clause-reads g c =
    at_err (λ n. ReadsEach (g.S.Source.bytes c.args.src.now) c.args.geo.now c.args.table.now c.turn_page.new.table (g.S.Source.reads c.args.src.now)
    (g.S.Source.reads c.turn_page.new.src) (length c.args.pages.now + n)) c.from_residual-in_err-turn.result 0 1 c.from_residual-in_err-turn.ensures.0
    (reads_weaker (g.S.Source.bytes c.args.src.now) c.args.geo.now c.args.table.now c.turn_page.new.table (g.S.Source.reads c.args.src.now)
    (g.S.Source.reads c.turn_page.new.src) (1 * length c.loop-page.turns.items + 2) (length c.args.pages.now + 1)
    (omega (arith, c.loop-page.invariant.stepping.count, length-map c.loop-page.turns.items turn_of, length-drop c.loop-page.page-index c.args.pages.now, c.loop-page-test.true))
    (subst (λ (n : ℕ). ReadsEach (g.S.Source.bytes c.args.src.now) c.args.geo.now c.args.table.now c.turn_page.new.table (g.S.Source.reads c.args.src.now)
    (g.S.Source.reads c.turn_page.new.src) (1 * n + 2)) (length-map c.loop-page.turns.items turn_of)
    (stepping_reads c.turn_page.new.table (g.S.Source.reads c.turn_page.new.src) 2 c.loop-page.invariant.stepping c.in_err-turn.ensures.reads)))

pub returns-in_err-turn-clause-full : goal.returns-in_err-turn-clause-full
returns-in_err-turn-clause-full g c =
    at_err (λ n. HasAll c.args.cache.now → HasAll c.turn_page.new.cache × ReadsEach (g.S.Source.bytes c.args.src.now) c.args.geo.now c.args.table.now
    c.turn_page.new.table (g.S.Source.reads c.args.src.now) (g.S.Source.reads c.turn_page.new.src) n) c.from_residual-in_err-turn.result 0 1
    c.from_residual-in_err-turn.ensures.0
    (stepping_full c.turn_page.new.cache c.turn_page.new.table (g.S.Source.reads c.turn_page.new.src) 1 c.loop-page.invariant.stepping c.in_err-turn.ensures.full)

pub returns-in_err-push-clause-full : goal.returns-in_err-push-clause-full
returns-in_err-push-clause-full g c =
    at_err (λ n. HasAll c.args.cache.now → HasAll c.turn_page.new.cache × ReadsEach (g.S.Source.bytes c.args.src.now) c.args.geo.now c.args.table.now
    c.turn_page.new.table (g.S.Source.reads c.args.src.now) (g.S.Source.reads c.turn_page.new.src) n) c.from_residual-in_err-push.result 0 1
    c.from_residual-in_err-push.ensures.0
    (stepping_full c.turn_page.new.cache c.turn_page.new.table (g.S.Source.reads c.turn_page.new.src) 1 c.loop-page.invariant.stepping
    (λ all. let step = c.in_ok-turn.ensures.full all in (
      step.0,
      reads_weaker (g.S.Source.bytes c.loop-page.src) c.args.geo.now c.loop-page.table c.turn_page.new.table
          (g.S.Source.reads c.loop-page.src) (g.S.Source.reads c.turn_page.new.src) 0 1 (omega arith) step.1,
    )))

pub returns-clause-value : goal.returns-clause-value
returns-clause-value g c = stepping_value c.loop-page.invariant.stepping (drop_all c.loop-page.page-index c.args.pages.now (omega arith))

pub returns-in_err-turn-clause-table_front : goal.returns-in_err-turn-clause-table_front
returns-in_err-turn-clause-table_front g c =
    chains_front _ c.args.geo.now c.args.pages.now 4 c.args.table.now c.turn_page.new.table
    (stepping_front (get_or c.args.pages.now c.loop-page.page-index 0) (drop (c.loop-page.page-index + 1) c.args.pages.now) c.turn_page.new.table
    c.loop-page.invariant.stepping (drop_more c.args.pages.now c.loop-page.page-index 0 c.loop-page-test.true) c.turn_page.ensures.table_front)

pub returns-in_err-push-clause-table_front : goal.returns-in_err-push-clause-table_front
returns-in_err-push-clause-table_front g c =
    chains_front _ c.args.geo.now c.args.pages.now 4 c.args.table.now c.turn_page.new.table
    (stepping_front (get_or c.args.pages.now c.loop-page.page-index 0) (drop (c.loop-page.page-index + 1) c.args.pages.now) c.turn_page.new.table
    c.loop-page.invariant.stepping (drop_more c.args.pages.now c.loop-page.page-index 0 c.loop-page-test.true) c.turn_page.ensures.table_front)

pub returns-clause-table_front : goal.returns-clause-table_front
returns-clause-table_front g c =
    chains_front _ c.args.geo.now c.args.pages.now 4 c.args.table.now c.loop-page.table
    (stepping_front_all c.loop-page.invariant.stepping (drop_all c.loop-page.page-index c.args.pages.now (omega arith)))
