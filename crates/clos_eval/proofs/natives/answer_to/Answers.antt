use Rattle.std.proofs.Common.{◌≡◌, List, [], ◌∷◌, None, ap, arith, length, map, refl, subst, ◌∙◌}
use Rattle.lisp_data.specs.Name.{Name}
use Rattle.lisp_data.specs.Value.{list}
use Rattle.lisp_data.specs.ValueView.{value_of}
use Rattle.lisp_data.specs.declared.value.Value.{Value}
use Rattle.lisp_data.specs.declared.value.Value.TheVariants as value
use Rattle.clos_machine.specs.clos_meaning.ClassFunctions.{symbol_in}
use Rattle.clos_machine.specs.clos_meaning.Natives.{native_sought}
use Rattle.clos_machine.specs.clos_world.Condition.{nil_name}
use Rattle.clos_eval.specs.Natives.{Calls}
use Rattle.clos_eval.proofs.Asking.{by_no_symbol, by_symbol, nothing_named}
use Rattle.clos_eval.proofs.natives.answer_to.Goals as goal

none_there : (vs : List Value) → length vs ≡ 0 → map value_of vs ≡ []
none_there [] e = refl
none_there (v ∷ vs) e = absurd (omega (arith, e))

no_symbol : (v : Value) → ((n : Name) → v ≡ value.Sym n → ⊥) → ((l : _) → v ≡ value.List l → ⊥) → symbol_in (value_of v) ≡ None
no_symbol (value.Int n) h g = refl
no_symbol (value.Sym n) h g = absurd (h n refl)
no_symbol (value.Str s) h g = refl
no_symbol (value.List l) h g = absurd (g l refl)
no_symbol (value.Class c) h g = refl
no_symbol (value.Generic f) h g = refl
no_symbol (value.Method m) h g = refl
no_symbol (value.Instance i) h g = refl

pub returns-in-None : goal.returns-in-None
returns-in-None g c =
    nothing_named (g.N.Natives.host c.args.natives.now) (map value_of c.args.values.now) c.args.steps.now c.args.answers.now.items
    c.plain.result (none_there c.args.values.now c.in-None.ensures.cases)
    c.plain.ensures

pub returns-in-Sym : goal.returns-in-Sym
returns-in-Sym g c =
    by_symbol (g.N.Natives.host c.args.natives.now) (map value_of c.args.values.now) c.args.steps.now c.args.answers.now.items
    (value_of c.in-Some.name.now) c.in-Sym.name (map value_of c.in-Some.arguments.now)
    c.answer_of.result c.answer_of.new.steps c.answer_of.new.answers.items (ap (map value_of) c.in-Some.ensures.cases.0)
    (ap (λ v. symbol_in (value_of v)) c.in-Sym.is) c.answer_of.ensures

pub returns-in-None-split_first : goal.returns-in-None-split_first
returns-in-None-split_first g c =
    by_symbol (g.N.Natives.host c.args.natives.now) (map value_of c.args.values.now) c.args.steps.now c.args.answers.now.items
    (value_of c.in-Some.name.now) nil_name (map value_of c.in-Some.arguments.now)
    c.answer_of-in-None-split_first.result c.answer_of-in-None-split_first.new.steps c.answer_of-in-None-split_first.new.answers.items
    (ap (map value_of) c.in-Some.ensures.cases.0)
    (ap (λ v. symbol_in (value_of v)) c.in-List.is ∙ ap (λ l. symbol_in (list l)) c.in-None-split_first.ensures)
    (subst (λ n. Calls (g.N.Natives.host c.args.natives.now) (native_sought n (map value_of c.in-Some.arguments.now)) c.args.steps.now
    c.args.answers.now.items
    c.answer_of-in-None-split_first.result c.answer_of-in-None-split_first.new.steps c.answer_of-in-None-split_first.new.answers.items)
    c.fixed-name.ensures c.answer_of-in-None-split_first.ensures)

pub returns-in-Some-split_first : goal.returns-in-Some-split_first
returns-in-Some-split_first g c =
    by_no_symbol (g.N.Natives.host c.args.natives.now) (map value_of c.args.values.now) c.args.steps.now c.args.answers.now.items
    (value_of c.in-Some.name.now) (map value_of c.in-Some.arguments.now)
    c.wrong_type.result (ap (map value_of) c.in-Some.ensures.cases.0)
    (ap (λ v. symbol_in (value_of v)) c.in-List.is ∙ ap (λ l. symbol_in (list l)) c.in-Some-split_first.ensures) c.wrong_type.ensures

pub returns-in_default : goal.returns-in_default
returns-in_default g c =
    by_no_symbol (g.N.Natives.host c.args.natives.now) (map value_of c.args.values.now) c.args.steps.now c.args.answers.now.items
    (value_of c.in-Some.name.now) (map value_of c.in-Some.arguments.now)
    c.wrong_type-in_default.result (ap (map value_of) c.in-Some.ensures.cases.0) (no_symbol c.in-Some.name.now c.in_default.not-Sym
    c.in_default.not-List) c.wrong_type-in_default.ensures
