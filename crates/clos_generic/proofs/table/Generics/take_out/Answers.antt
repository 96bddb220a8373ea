use Rattle.std.proofs.Common.{refl, ap, sym, subst, arith}
use Rattle.std.specs.Prelude.{◌==◌}
use Rattle.std.specs.HashMap.{get, spare}
use Rattle.lisp_data.specs.Name.{same_name}
use Rattle.clos_forms.specs.declared.operator.FunctionName.TheVariants.{Symbol, Setf}
use Rattle.clos_generic.specs.Sound.{AreSound}
use Rattle.clos_generic.specs.Table.{with_methods, without}
use Rattle.clos_generic.specs.TableView.{functions_in}
use Rattle.clos_generic.proofs.Changed.{past_all}
use Rattle.clos_generic.proofs.EqlNoted.{noted_changed}
use Rattle.clos_generic.proofs.Named.{still_indexed}
use Rattle.clos_generic.proofs.Ready.{ready_changed}
use Rattle.clos_generic.proofs.Soundness.{without_sound}
use Rattle.clos_generic.proofs.There.{AddsNone, in_without, there_changed}
use Rattle.clos_generic.proofs.table.Generics.take_out.Goals as goal

pub invariant_of-self : goal.invariant_of-self
invariant_of-self c =
    let change = with_methods (without (λ n. n == c.args.method.0)) in
    let none : AddsNone change = λ n f. in_without (λ k. k == c.args.method.0) n f.methods in
    let fs = c.self.inside.functions.items in
    let es = c.take_out_at.new.functions.items in
    let ms = c.self.inside.methods.items in (
      still_indexed change (λ f. refl) Symbol (λ n. get same_name c.self.inside.symbols n) (functions_in c.self.inside.functions.items) (functions_in c.take_out_at.new.functions.items)
          c.args.id.0 c.self.invariant.0 c.take_out_at.ensures.seen,
      still_indexed change (λ f. refl) Setf (λ n. get same_name c.self.inside.setters n) (functions_in c.self.inside.functions.items) (functions_in c.take_out_at.new.functions.items)
          c.args.id.0 c.self.invariant.1 c.take_out_at.ensures.seen,
      ready_changed c.self.inside.functions c.take_out_at.new.functions (spare c.self.inside.symbols) (spare c.self.inside.setters) c.self.inside.methods c.self.inside.spares.items
          c.self.inside.additions.items c.self.inside.methods c.self.invariant.2 c.take_out_at.ensures.len c.take_out_at.ensures.capacity refl (omega arith) c.take_out_at.ensures.rooms,
      c.self.invariant.3,
      c.self.invariant.4,
      there_changed change none (functions_in fs) (functions_in es) ms c.args.id.0 c.self.invariant.5 c.take_out_at.ensures.seen,
      noted_changed change none fs es ms c.args.id.0 c.self.invariant.6 c.take_out_at.ensures.seen c.take_out_at.ensures.notes,
      subst (λ l. AreSound l ms) (sym c.take_out_at.ensures.seen)
          (without_sound (functions_in fs) ms c.self.invariant.7 c.args.id.0 c.args.method.0),
    )

pub returns-else-id-function_count : goal.returns-else-id-function_count
returns-else-id-function_count c =
    ap (λ fs. record c.args.self.now { table = record c.args.self.now.table { functions = fs } })
    (sym (past_all (with_methods (without (λ n. n == c.args.method.0))) c.args.self.now.table.functions c.args.id.0 (omega arith)))
