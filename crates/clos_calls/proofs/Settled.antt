-- Parameters whose values are there are bound before the next that has an init form.
use Rattle.std.proofs.Common.{◌≡◌, ℕ, List, [], ◌∷◌, ◌++◌, Bool, true, false, Option, Some, None, Result, Ok, Err, length, drop, refl, ap, sym, ◌∙◌}
use Rattle.std.specs.Global.{Box}
use Rattle.std.specs.Prelude.{if◌then◌else◌, ◌&&◌, is_none}
use Rattle.std.proofs.lemmas.List.{append-nil}
use Rattle.lisp_data.specs.Name.{Name}
use Rattle.lisp_data.specs.Value.{Val}
use Rattle.lisp_data.specs.Value as value
use Rattle.clos_forms.specs.Form.{Form, Forms}
use Rattle.clos_lambda.specs.declared.lambda_list.Keys.{Keys}
use Rattle.clos_lambda.specs.declared.lambda_list.LambdaList.{LambdaList}
use Rattle.clos_lambda.specs.declared.lambda_list.Optional.{Optional}
use Rattle.clos_machine.specs.clos_world.Globals.{is_global}
use Rattle.clos_machine.specs.clos_world.World.{State, held, Local, bound_as, unbound}
use Rattle.clos_machine.specs.clos_world.declared.condition.Condition.{Condition}
use Rattle.clos_machine.specs.clos_world.declared.condition.ConditionKind.TheVariants.{Unsupported}
use Rattle.clos_machine.specs.clos_world.declared.condition.Stop.{Stop}
use Rattle.clos_machine.specs.clos_world.declared.condition.Stop.TheVariants.{Refused, Storage}
use Rattle.clos_machine.specs.clos_meaning.Bodies.{body_run, parameters_run, restoring, scoped}
use Rattle.clos_machine.specs.clos_meaning.Contexts.{Context}
use Rattle.clos_machine.specs.clos_meaning.Control.{sequence}
use Rattle.clos_machine.specs.Machine.{Binds, Leads, Settles, at, given_to, inside, resume, settled, under}
use Rattle.clos_machine.specs.clos_meaning.Meaning.{closed, meaning}
use Rattle.clos_machine.specs.clos_meaning.Outcome.{Out, Stopped, Eval, then_do, stopped}
use Rattle.clos_machine.specs.clos_meaning.Parameters.{Sources, argument, refused, init, is_empty, key_sources, optional_sources, required_sources, requires_only, rest_sources, sources}
use Rattle.clos_machine.specs.clos_meaning.Variables.{inner}
use Rattle.clos_machine.specs.declared.machine.Defaulted.{Defaulted}
use Rattle.clos_machine.specs.declared.machine.Doing.{Doing}
use Rattle.clos_machine.specs.declared.machine.Frame.TheVariants.{Bind}
use Rattle.clos_machine.specs.declared.machine.Level.{Level}
use Rattle.clos_machine.specs.declared.machine.Machine.{Machine}
use Rattle.clos_machine.proofs.Turns.{leads_same, stopped_through, then_then}

module _ (ls : List Level) (saved : Context) (outer : List Local) (ev : Eval) (env : Context) (fs : Forms) (w : State) (t : ℕ) where
  -- how the run goes on from there
  abbrev pub from : Result (List Local × Sources) Condition → Out
  from (Err c) = Stopped c (unbound w) t
  from (Ok p) = closed (resume ls saved (then_do (parameters_run ev env p.1 fs (bound_as p.0 w) t) (restoring outer)))

  pub settles : (ps : Sources) (xs : List Local) → from (Ok (xs, ps)) ≡ from (settled w.globals ps xs)
  settles [] xs = refl
  settles ((n, refused c) ∷ ps) xs = stopped_through ls saved c (bound_as xs w) t
  settles ((n, init f) ∷ ps) xs = refl
  settles ((n, argument v) ∷ ps) xs = by (is_global w.globals n) refl (settles ps ((n, held v) ∷ xs))
    where
      bound : Bool → Out
      bound b = if b then stopped Unsupported [] (bound_as xs w) t else parameters_run ev env ps fs (bound_as ((n, held v) ∷ xs) w) t

      left : Bool → Result (List Local × Sources) Condition
      left b = if b then Err (record { kind = Unsupported; items = [] }) else settled w.globals ps ((n, held v) ∷ xs)

      by : (b : Bool) → b ≡ is_global w.globals n → from (Ok ((n, held v) ∷ xs, ps)) ≡ from (settled w.globals ps ((n, held v) ∷ xs))
          → from (Ok (xs, (n, argument v) ∷ ps)) ≡ from (settled w.globals ((n, argument v) ∷ ps) xs)
      by true e r =
          sym (ap (λ x. closed (resume ls saved (then_do (bound x) (restoring outer)))) e)
          ∙ stopped_through ls saved (record { kind = Unsupported; items = [] }) (bound_as xs w) t ∙ ap (λ x. from (left x)) e
      by false e r = sym (ap (λ x. closed (resume ls saved (then_do (bound x) (restoring outer)))) e) ∙ r ∙ ap (λ x. from (left x)) e

-- ---- a body whose parameters are bound

pub settled_stops : (m : Machine) (saved : Context) (outer : List Local) (ev : Eval) (env : Context) (fs : Forms) (ps : Sources) (w : State) (stop : Stop) (xs : List Local) (ys : Sources) (p : Machine)
    → Settles (settled w.globals ps m.locals) (Err stop) xs ys → Leads (under m saved outer (parameters_run ev env ps fs)) w (Err stop) p
settled_stops m saved outer ev env fs ps w Storage xs ys p e = tt
settled_stops m saved outer ev env fs ps w (Refused d) xs ys p e = λ t.
    settles m.levels saved outer ev env fs w t ps m.locals ∙ ap (from m.levels saved outer ev env fs w t) e

pub settled_goes : (m : Machine) (saved : Context) (outer : List Local) (ev : Eval) (env : Context) (fs : Forms) (ps : Sources) (w : State) (xs : List Local) (ys : Sources) (r : Result Doing Stop) (p : Machine)
    → settled w.globals ps m.locals ≡ Ok (xs, ys) → Leads (under (record m { locals = xs }) saved outer (parameters_run ev env ys fs)) w r p
    → Leads (under m saved outer (parameters_run ev env ps fs)) w r p
settled_goes m saved outer ev env fs ps w xs ys r p e h =
    leads_same (under (record m { locals = xs }) saved outer (parameters_run ev env ys fs)) (under m saved outer (parameters_run ev env ps fs)) w r p
    (λ t. sym (settles m.levels saved outer ev env fs w t ps m.locals ∙ ap (from m.levels saved outer ev env fs w t) e)) h

pub init_begins : (m : Machine) (b : Box Defaulted) (d : Defaulted) (f : Form) (w : State) (t : ℕ) → b.value ≡ d
    → closed (resume (record { frame = Bind b; room = m.room } ∷ m.levels) m.context (meaning m.room m.context f (at m w) t))
    ≡ under m d.saved d.outer (parameters_run (meaning m.room) m.context ((d.name, init f) ∷ d.plan) d.body) w t
init_begins m b d f w t e =
    ap (λ o. closed (resume m.levels b.value.saved o))
    (sym (then_then (meaning m.room m.context f (at m w) t) (λ v u k. if is_global u.globals b.value.name then stopped Unsupported [] u k
    else parameters_run (meaning m.room) m.context b.value.plan b.value.body (inner b.value.name v u) k) (restoring b.value.outer)))
    ∙ ap (λ x. under m x.saved x.outer (parameters_run (meaning m.room) m.context ((x.name, init f) ∷ x.plan) x.body) w t) e

-- one parameter
abbrev bound_or_not : (m : Machine) (saved : Context) (outer : List Local) (x : Name) (v : Val) (ps : Sources) (fs : Forms) (w : State) (t : ℕ) → Bool → Out
bound_or_not m saved outer x v ps fs w t b =
    closed (resume m.levels saved (then_do (if b then stopped Unsupported [] (at m w) t
    else parameters_run (meaning m.room) m.context ps fs (inner x v (at m w)) t) (restoring outer)))

pub parameter_stops : (m : Machine) (b : Box Defaulted) (v : Val) (w : State) (d : Condition)
    → true ≡ is_global w.globals b.value.name → d ≡ record { kind = Unsupported; items = [] } → (t : ℕ) → given_to m (Bind b) v w t ≡ Stopped d (unbound w) t
parameter_stops m b v w d e k t =
    sym (ap (bound_or_not m b.value.saved b.value.outer b.value.name v b.value.plan b.value.body w t) e)
    ∙ stopped_through m.levels b.value.saved (record { kind = Unsupported; items = [] }) (at m w) t ∙ ap (λ c. Stopped c (unbound w) t) (sym k)

-- a body in a context of its own
pub planned : (m : Machine) (saved env : Context) (outer xs : List Local) (ctx : Context) (ps : Sources) (fs : Forms) (w : State) (r : Result Doing Stop) (p : Machine)
    → saved ≡ m.context → outer ≡ m.locals → env ≡ ctx → xs ≡ []
    → Leads (under (record m { context = env; locals = xs }) saved outer (parameters_run (meaning m.room) env ps fs)) w r p → Leads (inside m (body_run (meaning m.room) ctx ps fs)) w r p
planned m saved env outer xs ctx ps fs w r p e d k l h =
    leads_same (under (record m { context = env; locals = xs }) saved outer (parameters_run (meaning m.room) env ps fs)) (inside m (body_run (meaning m.room) ctx ps fs)) w r p
    (λ t. ap (λ x. under (record m { context = x; locals = xs }) saved outer (parameters_run (meaning m.room) x ps fs) w t) k
    ∙ ap (λ x. under (record m { context = ctx; locals = x }) saved outer (parameters_run (meaning m.room) ctx ps fs) w t) l
    ∙ ap (λ x. under (record m { context = ctx; locals = [] }) x outer (parameters_run (meaning m.room) ctx ps fs) w t) e
    ∙ ap (λ x. under (record m { context = ctx; locals = [] }) m.context x (parameters_run (meaning m.room) ctx ps fs) w t) d) h

pub bound_stops : (m : Machine) (ctx : Context) (us : List Val) (ns : List Name) (fs : Forms) (w : State) (stop : Stop) (p : Machine) → us ≡ ctx.arguments
    → Binds (settled w.globals (required_sources ns us) []) (Err stop) → Leads (inside m (body_run (meaning m.room) ctx (required_sources ns ctx.arguments) fs)) w (Err stop) p
bound_stops m ctx us ns fs w Storage p k e = tt
bound_stops m ctx us ns fs w (Refused d) p k e = λ t.
    settles m.levels m.context m.locals (meaning m.room) ctx fs w t (required_sources ns ctx.arguments) []
    ∙ ap (from m.levels m.context m.locals (meaning m.room) ctx fs w t) (ap (λ x. settled w.globals (required_sources ns x) []) (sym k) ∙ e)

pub bound_goes : (m : Machine) (ctx : Context) (us : List Val) (ns : List Name) (fs : Forms) (w : State) (xs : List Local) (r : Result Doing Stop) (p : Machine) → us ≡ ctx.arguments
    → settled w.globals (required_sources ns us) [] ≡ Ok (xs, [])
    → Leads (inside m (scoped (sequence (meaning m.room) ctx fs (value.list value.nil)) xs)) w r p → Leads (inside m (body_run (meaning m.room) ctx (required_sources ns ctx.arguments) fs)) w r p
bound_goes m ctx us ns fs w xs r p k e h =
    leads_same (inside m (scoped (sequence (meaning m.room) ctx fs (value.list value.nil)) xs)) (inside m (body_run (meaning m.room) ctx (required_sources ns ctx.arguments) fs)) w r p
    (λ t. sym (settles m.levels m.context m.locals (meaning m.room) ctx fs w t (required_sources ns ctx.arguments) []
    ∙ ap (from m.levels m.context m.locals (meaning m.room) ctx fs w t) (ap (λ x. settled w.globals (required_sources ns x) []) (sym k) ∙ e))) h

-- where all parameters are required
none_other : (ns : List Name) (os : List Optional) (o : Option Name) (k : Option Keys) (vs us : List Val) → true ≡ (is_empty os && is_none o && is_none k)
    → required_sources ns vs ++ (optional_sources os (drop (length ns) vs) ++ (rest_sources o us ++ key_sources k us)) ≡ required_sources ns vs
none_other ns [] None None vs us e = append-nil (required_sources ns vs)
none_other ns [] None (Some k) vs us e = absurd (cc e)
none_other ns [] (Some n) k vs us e = absurd (cc e)
none_other ns (x ∷ os) o k vs us e = absurd (cc e)

pub plain_sources : (l : LambdaList) (vs : List Val) → true ≡ requires_only l → sources l vs ≡ required_sources l.required vs
plain_sources l vs e = none_other l.required l.optional l.rest l.keys vs (drop (length l.optional) (drop (length l.required) vs)) e
