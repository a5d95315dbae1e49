use Rattle.std.proofs.Common.{◌+◌, drop, arith}
use Rattle.page_access.proofs.Gains.{front_as, front_out, front_step}
use Rattle.page_access.proofs.Keeps.{KeepsSink-trans}
use Rattle.dbdata_list.specs.Text.{pointer_lines}
use Rattle.dbdata_list.proofs.Pieces.{pointers_more}
use Rattle.dbdata_list.proofs.pointers.put_pointers.Goals as goal

pub returns-in_err-put_pointer-clause-writes : goal.returns-in_err-put_pointer-clause-writes
returns-in_err-put_pointer-clause-writes g c =
    front_out (pointer_lines c.args.page (drop (c.loop-child.child-index + 1) c.args.children.now)) c.from_residual.ensures.0
    (front_as (pointers_more c.args.page c.loop-child.child-index c.args.children.now _ (omega arith)) c.loop-child.invariant.0) c.in_err-put_pointer.ensures.writes

pub loop-child-preserved : goal.loop-child-preserved
loop-child-preserved g c = (
  front_step (pointer_lines c.args.page (drop (c.loop-child.child-index + 1) c.args.children.now))
      (front_as (pointers_more c.args.page c.loop-child.child-index c.args.children.now _ (omega arith)) c.loop-child.invariant.0) c.in_ok-put_pointer.ensures.writes,
  KeepsSink-trans c.loop-child.invariant.1 c.in_ok-put_pointer.ensures.kept,
)
