-- Outcomes through the levels of the machine.
use Rattle.std.proofs.Common.{◌≡◌, ℕ, ◌<◌, ◌≤◌, arith, Result, Ok, Err, List, [], ◌∷◌, Option, Some, None, refl, ap, sym, subst, ◌∙◌}
use Rattle.std.specs.Prelude.{ℤ}
use Rattle.lisp_data.specs.Name.{Name}
use Rattle.lisp_data.specs.Value.{Val}
use Rattle.clos_forms.specs.Form.{Forms, nil, cons}
use Rattle.clos_meaning.specs.clos_world.World.{State, Local, bound_as, unbound}
use Rattle.clos_meaning.specs.clos_world.declared.condition.Condition.{Condition}
use Rattle.clos_meaning.specs.clos_world.declared.condition.ConditionKind.TheVariants.{ProgramError}
use Rattle.clos_meaning.specs.clos_world.declared.condition.Stop.{Stop}
use Rattle.clos_meaning.specs.clos_world.declared.condition.Stop.TheVariants.{Refused, Storage}
use Rattle.clos_meaning.specs.clos_world.clos_method.declared.method.Method.{Method}
use Rattle.clos_meaning.specs.Calls.{method_run}
use Rattle.clos_meaning.specs.Contexts.{Context}
use Rattle.clos_meaning.specs.Control.{sequence, while_true, until_true}
use Rattle.clos_machine.specs.Machine.{after, at, below, resume, inside, Grows, Leads, Shrinks, going}
use Rattle.clos_meaning.specs.Meaning.{closed, meaning}
use Rattle.clos_meaning.specs.Outcome.{Note, Noted, Looked, Asked, Out, Run, Eval, Gave, Stopped, then_do, gave}
use Rattle.clos_machine.specs.declared.machine.Control.TheVariants.{Progn, And, Or}
use Rattle.clos_machine.specs.declared.machine.Doing.{Doing}
use Rattle.clos_machine.specs.declared.machine.Level.{Level}
use Rattle.clos_machine.specs.declared.machine.Machine.{Machine}

-- a condition passes through all levels
pub stopped_through : (ls : List Level) (env : Context) (c : Condition) (w : State) (s : ℕ) → closed (resume ls env (Stopped c w s)) ≡ Stopped c (unbound w) s
stopped_through [] env c w s = refl
stopped_through (l ∷ ls) env c w s = stopped_through ls (below env l.frame) c w s

-- what was noted first stays so
pub noted_through : (ls : List Level) (env : Context) (n : Note) (o : Out) → resume ls env (Noted n o) ≡ Noted n (resume ls env o)
noted_through [] env n o = refl
noted_through (l ∷ ls) env n o = noted_through ls (below env l.frame) n (then_do o (after (meaning l.room) env l.frame))

-- and what waits for the host's answer
pub looked_through : (ls : List Level) (env : Context) (name : Name) (more : Option ℕ → Out) → resume ls env (Looked name more) ≡ Looked
    name (λ n. resume ls env (more n))
looked_through [] env name more = refl
looked_through (l ∷ ls) env name more = looked_through ls (below env l.frame) name
    (λ n. then_do (more n) (after (meaning l.room) env l.frame))

pub asked_through : (ls : List Level) (env : Context) (name : Name) (xs : List ℤ) (more : ℤ → Out)
    → resume ls env (Asked name xs more) ≡ Asked name xs (λ x. resume ls env (more x))
asked_through [] env name xs more = refl
asked_through (l ∷ ls) env name xs more = asked_through ls (below env l.frame) name xs
    (λ x. then_do (more x) (after (meaning l.room) env l.frame))

-- what comes of each answer the same way is the same
pub looked_same : (name : Name) (f g : Option ℕ → Out) → ((n : Option ℕ) → f n ≡ g n) → Looked name f ≡ Looked name g
looked_same name f g h = λ i. Looked name (λ n. h n i)

pub asked_same : (name : Name) (xs : List ℤ) (f g : ℤ → Out) → ((x : ℤ) → f x ≡ g x) → Asked name xs f ≡ Asked name xs g
asked_same name xs f g h = λ i. Asked name xs (λ x. h x i)

-- what follows what follows
pub then_then : (o : Out) (f g : Val → Run) → then_do (then_do o f) g ≡ then_do o (λ v w s. then_do (f v w s) g)
then_then (Gave v w s) f g = refl
then_then (Stopped c w s) f g = refl
then_then (Noted n o) f g = ap (Noted n) (then_then o f g)
then_then (Looked name more) f g = looked_same name _ _ (λ n. then_then (more n) f g)
then_then (Asked name xs more) f g = asked_same name xs _ _ (λ x. then_then (more x) f g)

pub noted_closed : (ls : List Level) (env : Context) (n : Note) (o : Out) → closed (resume ls env (Noted n o)) ≡ Noted n (closed (resume ls env o))
noted_closed ls env n o = ap closed (noted_through ls env n o)

-- what does nothing more with a value
pub then_gave : (o : Out) → then_do o gave ≡ o
then_gave (Gave v w s) = refl
then_gave (Stopped c w s) = refl
then_gave (Noted n o) = ap (Noted n) (then_gave o)
then_gave (Looked name more) = looked_same name _ _ (λ n. then_gave (more n))
then_gave (Asked name xs more) = asked_same name xs _ _ (λ x. then_gave (more x))

-- there is no such method
pub no_method : (m : Machine) (ev : Eval) (env : Context) (o : Option Method) (c : Condition) (w : State) (t : ℕ) → None ≡ o → c ≡ record { kind = ProgramError; items = [] }
    → inside m (method_run ev env o) w t ≡ Stopped c (unbound w) t
no_method m ev env None c w t e k = stopped_through m.levels m.context (record { kind = ProgramError; items = [] }) (at m w) t ∙ ap (λ x. Stopped x (unbound w) t) (sym k)
no_method m ev env (Some x) c w t e k = cc

-- what adds little adds no more than something larger
pub grows_more : (n k : ℕ) (old : List Level) (r : Result Doing Stop) (m : Machine) → n ≤ k → Grows n old r m → Grows k old r m
grows_more n k old (Ok d) m l h = omega (arith, l, h)
grows_more n k old (Err e) m l h = tt

-- what adds less than what comes next makes a turn, whether it takes steps or not
pub shrinks_by : (n k s s' : ℕ) (old : List Level) (r : Result Doing Stop) (m : Machine) → n < k → s' ≤ s → Grows n old r m → Shrinks k s s' old r m
shrinks_by n k s s' old (Ok d) m l h g = omega (arith, l, h, g)
shrinks_by n k s s' old (Err e) m l h g = tt

-- how forms go on, in the words of the machine
pub going_progn : (ev : Eval) (env : Context) (fs : Forms) (v : Val) (w : State) (t : ℕ) → going ev env Progn fs v w t ≡ sequence ev env fs v w t
going_progn ev env nil v w t = refl
going_progn ev env (cons f fs) v w t = refl

pub going_and : (ev : Eval) (env : Context) (fs : Forms) (v : Val) (w : State) (t : ℕ) → going ev env And fs v w t ≡ while_true ev env fs v w t
going_and ev env nil v w t = refl
going_and ev env (cons f fs) v w t = refl

pub going_or : (ev : Eval) (env : Context) (fs : Forms) (v : Val) (w : State) (t : ℕ) → going ev env Or fs v w t ≡ until_true ev env fs v w t
going_or ev env nil v w t = refl
going_or ev env (cons f fs) v w t = refl

-- a run that ends like another
pub leads_same : (run run' : Run) (w : State) (r : Result Doing Stop) (m : Machine) → ((t : ℕ) → run w t ≡ run' w t) → Leads run w r m → Leads run' w r m
leads_same run run' w (Ok d) m e h = λ t. h t ∙ e t
leads_same run run' w (Err (Refused c)) m e h = λ t. sym (e t) ∙ h t
leads_same run run' w (Err Storage) m e h = tt

-- with other variables
pub leads_bound : (m n p : Machine) (ls : List Local) (first run : Run) (w : State) (r : Result Doing Stop) → n ≡ record m { locals = ls }
    → ((t : ℕ) → first (bound_as ls w) t ≡ run (at m w) t) → Leads (inside n first) w r p → Leads (inside m run) w r p
leads_bound m n p ls first run w r e h =
    subst (λ x. Leads (inside x first) w r p → Leads (inside m run) w r p) (sym e)
    (leads_same (inside (record m { locals = ls }) first) (inside m run) w r p (λ t. ap (λ o. closed (resume m.levels m.context o)) (h t)))
