use Rattle.std.proofs.Common.{◌-◌, ap, arith, sym, ◌∙◌, Some, map}
use Rattle.clos_template.specs.Grammar.{each_part, tree_at}
use Rattle.clos_template.specs.PartView.{part_of, shape_told}
use Rattle.clos_template.proofs.Trees.{trees_failed, trees_go_on, tree_refused, tree_step}
use Rattle.clos_template.proofs.tree.+tree.Goals as goal

pub tree_at-returns-in_ok-new-in-Ok-trees_at : goal.tree_at-returns-in_ok-new-in-Ok-trees_at
tree_at-returns-in_ok-new-in-Ok-trees_at t c =
    tree_step c.args.room (c.args.room - 1) (part_of c.args.part) (shape_told c.in-Ok.shape) c.in-Ok-trees_at.templates
    (omega (arith, c.if-room-eq0.false)) c.in-Ok.ensures c.in-Ok-trees_at.ensures
    ∙ ap Some (sym c.in_ok-new-in-Ok-trees_at.ensures)

pub tree_at-returns-in-Err-trees_at : goal.tree_at-returns-in-Err-trees_at
tree_at-returns-in-Err-trees_at t c =
    tree_refused c.in-Err-trees_at.fault c.args.room (c.args.room - 1) (part_of c.args.part) (shape_told c.in-Ok.shape) (omega (arith, c.if-room-eq0.false)) c.in-Ok.ensures c.in-Err-trees_at.ensures

pub trees_at-returns-in-Err : goal.trees_at-returns-in-Err
trees_at-returns-in-Err t c =
    trees_failed part_of (tree_at c.args.room) c.in-Err.fault c.loop-part.parts.items c.pop.new.self.items c.in-Some.part (Some c.loop-part.templates) _
    c.in-Some.ensures.items c.loop-part.invariant c.in-Err.ensures

pub trees_at-loop-part-preserved : goal.trees_at-loop-part-preserved
trees_at-loop-part-preserved t c =
    ap (λ fs. each_part (tree_at c.args.room) (map part_of c.pop.new.self.items) (Some fs)) c.in_ok-templates-in-Ok.ensures
    ∙ trees_go_on part_of (tree_at c.args.room) c.loop-part.parts.items c.pop.new.self.items c.in-Some.part c.in-Ok.template c.loop-part.templates _
    c.in-Some.ensures.items c.loop-part.invariant c.in-Ok.ensures
