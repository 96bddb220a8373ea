-- Variables without init forms are bound before the next that has one.
use Rattle.std.proofs.Common.{◌≡◌, ℕ, List, [], ◌∷◌, Option, Some, None, Bool, true, false, Err, refl, ap, sym, ◌∙◌}
use Rattle.std.specs.Prelude.{if◌then◌else◌}
use Rattle.lisp_data.specs.Value as value
use Rattle.clos_forms.specs.Form.{Forms}
use Rattle.clos_forms.specs.Operator.{Bound}
use Rattle.clos_machine.specs.clos_world.Globals.{is_global}
use Rattle.clos_machine.specs.clos_world.World.{State, held, Local, bound_as, unbound}
use Rattle.clos_machine.specs.clos_world.declared.condition.ConditionKind.TheVariants.{Unsupported}
use Rattle.clos_machine.specs.clos_world.declared.condition.Stop.{Stop}
use Rattle.clos_machine.specs.clos_world.declared.condition.Stop.TheVariants.{Refused, Storage}
use Rattle.clos_machine.specs.Machine.{at, inside, resume, unset, unset_aside, Skips, Leads}
use Rattle.clos_machine.specs.clos_meaning.Contexts.{Context}
use Rattle.clos_machine.specs.clos_meaning.Meaning.{closed}
use Rattle.clos_machine.specs.clos_meaning.Outcome.{Out, Stopped, Run, Eval, stopped}
use Rattle.clos_machine.specs.clos_meaning.Variables.{binding, init_form, in_order, aside}
use Rattle.clos_machine.specs.declared.machine.Level.{Level}
use Rattle.clos_machine.specs.declared.machine.Machine.{Machine}
use Rattle.clos_machine.proofs.Turns.{stopped_through}

-- ---- let*

module _ (ls : List Level) (c : Context) (ev : Eval) (env : Context) (n : ℕ) (fs : Forms) (w : State) (t : ℕ) where
  -- how the run goes on from there
  abbrev pub skipped : Option (List Local × List Bound) → Out
  skipped None = stopped Unsupported [] (unbound w) t
  skipped (Some p) = closed (resume ls c (in_order ev env n p.1 fs (bound_as p.0 w) t))

  pub order_skips : (bs : List Bound) (xs : List Local) → skipped (Some (xs, bs)) ≡ skipped (unset w.globals bs xs)
  order_skips [] xs = refl
  order_skips (b ∷ bs) xs = by b.has_init (is_global w.globals b.name) refl refl (order_skips bs ((b.name, held (value.list value.nil)) ∷ xs))
    where
      first_of : Bool → Out
      first_of h = if h then init_form ev env fs (λ rest v. binding b.name v (in_order ev env n bs rest)) (bound_as xs w) t
          else binding b.name (value.list value.nil) (in_order ev env n bs fs) (bound_as xs w) t

      left : Bool → Bool → Option (List Local × List Bound)
      left h g = if h then Some (xs, b ∷ bs) else if g then None else unset w.globals bs ((b.name, held (value.list value.nil)) ∷ xs)

      by : (h g : Bool) → h ≡ b.has_init → g ≡ is_global w.globals b.name
          → skipped (Some ((b.name, held (value.list value.nil)) ∷ xs, bs)) ≡ skipped (unset w.globals bs ((b.name, held (value.list value.nil)) ∷ xs))
          → skipped (Some (xs, b ∷ bs)) ≡ skipped (unset w.globals (b ∷ bs) xs)
      by true g e d r = ap (λ x. skipped (left x (is_global w.globals b.name))) e
      by false true e d r =
          sym (ap (λ x. closed (resume ls c (first_of x))) e)
          ∙ sym (ap (λ x. closed (resume ls c (if x then stopped Unsupported [] (bound_as xs w) t else in_order ev env n bs fs (bound_as ((b.name, held (value.list value.nil)) ∷ xs) w) t))) d)
          ∙ stopped_through ls c (record { kind = Unsupported; items = [] }) (bound_as xs w) t
          ∙ ap (λ x. skipped (left false x)) d ∙ ap (λ x. skipped (left x (is_global w.globals b.name))) e
      by false false e d r =
          sym (ap (λ x. closed (resume ls c (first_of x))) e)
          ∙ sym (ap (λ x. closed (resume ls c (if x then stopped Unsupported [] (bound_as xs w) t else in_order ev env n bs fs (bound_as ((b.name, held (value.list value.nil)) ∷ xs) w) t))) d)
          ∙ r
          ∙ ap (λ x. skipped (left false x)) d ∙ ap (λ x. skipped (left x (is_global w.globals b.name))) e

pub not_skipped : (m : Machine) (ev : Eval) (env : Context) (n : ℕ) (fs : Forms) (bs : List Bound) (w : State) (run : Run) (stop : Stop) (xs : List Local) (ys : List Bound) (p : Machine)
    → ((t : ℕ) → in_order ev env n bs fs (at m w) t ≡ run (at m w) t) → Skips (unset w.globals bs m.locals) (Err stop) xs ys → Leads (inside m run) w (Err stop) p
not_skipped m ev env n fs bs w run Storage xs ys p h e = tt
not_skipped m ev env n fs bs w run (Refused d) xs ys p h e = λ t.
    sym (ap (λ o. closed (resume m.levels m.context o)) (h t)) ∙ order_skips m.levels m.context ev env n fs w t bs m.locals
    ∙ ap (skipped m.levels m.context ev env n fs w t) e.0 ∙ ap (λ x. Stopped x (unbound w) t) (sym e.1)

-- ---- let

module _ (ev : Eval) (env : Context) (n : ℕ) (fs : Forms) (w : State) (t : ℕ) where
  abbrev pub put_aside : List Local × List Bound → Out
  put_aside p = aside ev env n p.1 fs p.0 w t

  pub aside_skips : (bs : List Bound) (xs : List Local) → put_aside (xs, bs) ≡ put_aside (unset_aside bs xs)
  aside_skips [] xs = refl
  aside_skips (b ∷ bs) xs = by b.has_init refl (aside_skips bs ((b.name, held (value.list value.nil)) ∷ xs))
    where
      first_of : Bool → Out
      first_of h = if h then init_form ev env fs (λ rest v. aside ev env n bs rest ((b.name, held v) ∷ xs)) w t
          else aside ev env n bs fs ((b.name, held (value.list value.nil)) ∷ xs) w t

      left : Bool → List Local × List Bound
      left h = if h then (xs, b ∷ bs) else unset_aside bs ((b.name, held (value.list value.nil)) ∷ xs)

      by : (h : Bool) → h ≡ b.has_init
          → put_aside ((b.name, held (value.list value.nil)) ∷ xs, bs) ≡ put_aside (unset_aside bs ((b.name, held (value.list value.nil)) ∷ xs))
          → put_aside (xs, b ∷ bs) ≡ put_aside (unset_aside (b ∷ bs) xs)
      by true e r = ap (λ x. put_aside (left x)) e
      by false e r = sym (ap first_of e) ∙ r ∙ ap (λ x. put_aside (left x)) e
