-- Calls of stored functions, as turns of the machine.
use Rattle.std.proofs.Common.{◌≡◌, ◌≢◌, ℕ, suc, true, List, [], ◌∷◌, ◌++◌, Option, Some, None, Result, Ok, Err, length, refl, ap, sym, subst, ◌∙◌, append_assoc}
use Rattle.std.proofs.Common.{inl}
use Rattle.std.specs.Prelude.{ℤ, if◌then◌else◌}
use Rattle.std.proofs.lemmas.Bool.{ne_eqb}
use Rattle.std.specs.Cmp.{unsigned_Decides}
use Rattle.lisp_data.specs.Name.{Name}
use Rattle.lisp_data.specs.Value.{Val, integer}
use Rattle.lisp_data.specs.declared.value.Value.{Value}
use Rattle.lisp_data.specs.declared.value.Value.TheVariants.{Int}
use Rattle.clos_forms.specs.Quotation.{name_value}
use Rattle.clos_machine.specs.Machine.{Asks, at, denote, resume}
use Rattle.clos_machine.specs.clos_meaning.ClassFunctions.{symbol_in}
use Rattle.clos_machine.specs.clos_meaning.Host.{Host, answered_by, may_answer}
use Rattle.clos_machine.specs.clos_meaning.Meaning.{closed}
use Rattle.clos_machine.specs.clos_meaning.Natives.{integer_in, integers_given, integers_in, with_first, native_called, native_named as named_native, native_found, native_sought}
use Rattle.clos_machine.specs.clos_meaning.Outcome.{Asked, Gave, Looked, Out, Run, Signalled, Stopped}
use Rattle.clos_machine.specs.clos_meaning.Uses.{after_notes, notes_by}
use Rattle.clos_machine.specs.Uses.{Notes}
use Rattle.clos_machine.specs.clos_world.clos_cache.Uses.{Uses}
use Rattle.clos_machine.specs.clos_world.World.{State, unbound}
use Rattle.clos_machine.specs.clos_world.declared.condition.Condition.{Condition}
use Rattle.clos_machine.specs.clos_world.declared.condition.ConditionKind.TheVariants.{ProgramError, StepLimit, TypeError, UnknownNative}
use Rattle.clos_machine.specs.clos_world.declared.condition.Stop.{Stop}
use Rattle.clos_machine.specs.clos_world.declared.condition.Stop.TheVariants.{Refused, Storage}
use Rattle.clos_machine.specs.declared.machine.Doing.TheVariants.{Give, Native}
use Rattle.clos_machine.specs.declared.machine.Machine.{Machine}
use Rattle.clos_machine.proofs.Runs.{one_more}
use Rattle.clos_machine.proofs.Turns.{asked_through, looked_through, stopped_through}
use Rattle.clos_machine.proofs.Uses.{none_made}
use Rattle.clos_eval.specs.Host.{takes_in}
use Rattle.clos_eval.specs.Natives.{Calls, NotIntegers, Passes, StopsAt, Tells}

-- ---- outcomes that wait for an answer

passes_asked : (host : Host) (name : Name) (xs : List ℤ) (more : ℤ → Out) (x : ℤ) → may_answer (host name) xs x ≡ true
    → Passes host (Asked name xs more) x (more x)
passes_asked host name xs more x h = λ ls env rest. (
  ap (λ o. answered_by host (closed o) (x ∷ rest)) (asked_through ls env name xs more)
      ∙ ap (λ b. if b then answered_by host (closed (resume ls env (more x))) rest else None) h,
  ap (λ o. notes_by host (closed o) (x ∷ rest)) (asked_through ls env name xs more),
)

passes_looked : (host : Host) (name : Name) (more : Option ℕ → Out) (x : ℤ) (o : Out) → Passes host (more (takes_in host name)) x o
    → Passes host (Looked name more) x o
passes_looked host name more x o h = λ ls env rest. (
  ap (λ p. answered_by host (closed p) (x ∷ rest)) (looked_through ls env name more) ∙ (h ls env rest).0,
  ap (λ p. notes_by host (closed p) (x ∷ rest)) (looked_through ls env name more) ∙ (h ls env rest).1,
)

stops_at : (host : Host) (c : Condition) (w : State) (s : ℕ) → StopsAt host (Stopped c w s) c w s
stops_at host c w s = λ ls env. (ap (λ o. answered_by host o []) (stopped_through ls env c w s), ap (λ o. notes_by host o []) (stopped_through ls env c w s))

stops_looked : (host : Host) (name : Name) (more : Option ℕ → Out) (c : Condition) (w : State) (s : ℕ)
    → StopsAt host (more (takes_in host name)) c w s → StopsAt host (Looked name more) c w s
stops_looked host name more c w s h = λ ls env. (
  ap (λ p. answered_by host (closed p) []) (looked_through ls env name more) ∙ (h ls env).0,
  ap (λ p. notes_by host (closed p) []) (looked_through ls env name more) ∙ (h ls env).1,
)

-- ---- calls

calls_same : (host : Host) (run run' : Run) (s : ℕ) (past : List ℤ) (r : Result ℤ Stop) (s' : ℕ) (past' : List ℤ)
    → ((w : State) (t : ℕ) → run w t ≡ run' w t)
    → Calls host run s past r s' past' → Calls host run' s past r s' past'
calls_same host run run' s past (Ok x) s' past' e h = (
  h.0,
  h.1,
  λ w t. subst (λ o. Passes host o x (Gave (integer x) w t)) (e w (suc t))
      (h.2 w t),
)
calls_same host run run' s past (Err (Refused c)) s' past' e h = (h.0, h.1, λ w. subst (λ o. StopsAt host o c w s) (e w s) (h.2 w))
calls_same host run run' s past (Err Storage) s' past' e h = h

-- it is refused at once
pub refused_at_once : (host : Host) (run : Run) (s : ℕ) (past : List ℤ) (c : Condition) → ((w : State) → run w s ≡ Stopped c w s)
    → Calls host run s past (Err (Refused c)) s past
refused_at_once host run s past c e = (refl, refl, λ w. subst (λ o. StopsAt host o c w s) (sym (e w)) (stops_at host c w s))

-- the function is looked for first
calls_looked : (host : Host) (name : Name) (run : Option ℕ → Run) (s : ℕ) (past : List ℤ) (r : Result ℤ Stop) (s' : ℕ) (past' : List ℤ)
    → Calls host (run (takes_in host name)) s past r s' past' → Calls host (λ w t. Looked name (λ n. run n w t)) s past r s' past'
calls_looked host name run s past (Ok x) s' past' h =
    (h.0, h.1, λ w t. passes_looked host name (λ n. run n w (suc t)) x (Gave (integer x) w t) (h.2 w t))
calls_looked host name run s past (Err (Refused c)) s' past' h = (h.0, h.1, λ w. stops_looked host name (λ n. run n w s) c w s (h.2 w))
calls_looked host name run s past (Err Storage) s' past' h = h

-- ---- the function is asked

module _ (host : Host) (name : Name) (xs : List ℤ) (s : ℕ) (past : List ℤ) where
  pub no_step_left : (c : Condition) → s ≡ 0 → c ≡ record { kind = StepLimit; items = [] } → Calls host (integers_given name (Ok xs)) s past
      (Err (Refused c)) s past
  no_step_left c z e =
      refused_at_once host (integers_given name (Ok xs)) s past c
      (λ w. ap (integers_given name (Ok xs) w) z ∙ ap (λ d. Stopped d w 0) (sym e) ∙ ap (Stopped c w) (sym z))

  pub no_place : (past' : List ℤ) → past' ≡ past → Calls host (integers_given name (Ok xs)) s past (Err Storage) s past'
  no_place past' e = (refl, e)

  pub is_asked : (x : ℤ) (s' : ℕ) (past' : List ℤ) → may_answer (host name) xs x ≡ true → s ≡ suc s' → past' ≡ past ++ x ∷ []
      → Calls host (integers_given name (Ok xs)) s past (Ok x) s' past'
  is_asked x s' past' m e a = (e, a, λ w t. passes_asked host name xs (λ y. Gave (integer y) w t) x m)

-- ---- its arguments

-- integers that were read before others
abbrev pub prefixed : List ℤ → Result (List ℤ) Val → Result (List ℤ) Val
prefixed ns (Ok ms) = Ok (ns ++ ms)
prefixed ns (Err v) = Err v

pub one_more_integer : (ns : List ℤ) (n : ℤ) (v : Val) (r : Result (List ℤ) Val) → prefixed ns (with_first v (Some n) r) ≡ prefixed
    (ns ++ n ∷ []) r
one_more_integer ns n v (Ok ms) = ap Ok (sym (append_assoc ns (n ∷ []) ms))
one_more_integer ns n v (Err u) = refl

pub too_many_or_few : (host : Host) (name : Name) (n : ℕ) (vs : List Val) (s : ℕ) (past : List ℤ) (c : Condition) → length vs ≢ n
    → c ≡ record { kind = ProgramError; items = [] }
    → Calls host (native_found name vs (Some n)) s past (Err (Refused c)) s past
too_many_or_few host name n vs s past c d e =
    refused_at_once host (native_found name vs (Some n)) s past c
    (λ w. ap (λ b. if b then integers_given name (integers_in vs) w s else Stopped (record { kind = ProgramError; items = [] }) w s)
    (ne_eqb (length vs) n d)
    ∙ ap (λ d. Stopped d w s) (sym e))

-- where they are as many as it takes
found_with : (name : Name) (vs : List Val) (n : ℕ) (r : Result (List ℤ) Val) → length vs ≡ n → integers_in vs ≡ r → (w : State) (t : ℕ)
    → integers_given name r w t ≡ native_found name vs (Some n) w t
found_with name vs n r e i w t =
    ap (λ x. integers_given name x w t) (sym i)
    ∙ sym (ap (λ b. if b then integers_given name (integers_in vs) w t else Stopped (record { kind = ProgramError; items = [] }) w t)
    ((unsigned_Decides (length vs) n).1 e))

pub not_integers : (host : Host) (name : Name) (n : ℕ) (vs : List Val) (s : ℕ) (past : List ℤ) (stop : Stop) → length vs ≡ n
    → NotIntegers (integers_in vs) stop
    → Calls host (native_found name vs (Some n)) s past (Err stop) s past
not_integers host name n vs s past (Refused c) e i =
    refused_at_once host (native_found name vs (Some n)) s past c
    (λ w. sym (found_with name vs n (Err i.0) e i.1 w s) ∙ ap (λ d. Stopped d w s) (sym i.2))
not_integers host name n vs s past Storage e i = (refl, refl)

pub with_integers : (host : Host) (name : Name) (n : ℕ) (vs : List Val) (xs : List ℤ) (s s' : ℕ) (past past' : List ℤ) (r : Result ℤ Stop)
    → length vs ≡ n → integers_in vs ≡ Ok xs
    → Calls host (integers_given name (Ok xs)) s past r s' past' → Calls host (native_found name vs (Some n)) s past r s' past'
with_integers host name n vs xs s s' past past' r e i a =
    calls_same host (integers_given name (Ok xs)) (native_found name vs (Some n)) s past r s' past' (found_with name vs n (Ok xs) e i) a

-- as many as the values
abbrev Count : Result (List ℤ) Val → ℕ → Type 0
Count (Ok ns) k = length ns ≡ k
Count (Err v) k = Unit {0}

one_counted : (v : Val) (o : Option ℤ) (r : Result (List ℤ) Val) (k : ℕ) → Count r k → Count (with_first v o r) (suc k)
one_counted v None r k h = tt
one_counted v (Some n) (Ok ns) k h = ap suc h
one_counted v (Some n) (Err u) k h = tt

counted : (vs : List Val) → Count (integers_in vs) (length vs)
counted [] = refl
counted (v ∷ vs) = one_counted v (integer_in v) (integers_in vs) (length vs) (counted vs)

pub as_many : (vs : List Val) (ns : List ℤ) → integers_in vs ≡ Ok ns → length ns ≡ length vs
as_many vs ns e = subst (λ r. Count r (length vs)) e (counted vs)

-- ---- its name

module _ (host : Host) (name : Name) (vs : List Val) (s : ℕ) (past : List ℤ) where
  pub unknown : (c : Condition) → takes_in host name ≡ None → c ≡ record { kind = UnknownNative; items = name_value name ∷ [] }
      → Calls host (native_sought name vs) s past (Err (Refused c)) s past
  unknown c e q =
      calls_looked host name (λ n. native_found name vs n) s past (Err (Refused c)) s past
      (refused_at_once host (native_found name vs (takes_in host name)) s past c
      (λ w. ap (λ n. native_found name vs n w s) e ∙ ap (λ d. Stopped d w s) (sym q)))

  pub is_known : (n : ℕ) (r : Result ℤ Stop) (s' : ℕ) (past' : List ℤ) → takes_in host name ≡ Some n
      → Calls host (native_found name vs (Some n)) s past r s' past'
      → Calls host (native_sought name vs) s past r s' past'
  is_known n r s' past' e a =
      calls_looked host name (λ n. native_found name vs n) s past r s' past'
      (subst (λ n. Calls host (native_found name vs n) s past r s' past') (sym e) a)

-- ---- what names it

module _ (host : Host) (vs : List Val) (s : ℕ) (past : List ℤ) where
  pub nothing_named : (c : Condition) → vs ≡ [] → c ≡ record { kind = ProgramError; items = [] } → Calls host (native_called vs) s past
      (Err (Refused c)) s past
  nothing_named c e q =
      refused_at_once host (native_called vs) s past c (λ w. ap (λ us. native_called us w s) e ∙ ap (λ d. Stopped d w s) (sym q))

  pub by_symbol : (v : Val) (name : Name) (rest : List Val) (r : Result ℤ Stop) (s' : ℕ) (past' : List ℤ) → vs ≡ v ∷ rest
      → symbol_in v ≡ Some name
      → Calls host (native_sought name rest) s past r s' past' → Calls host (native_called vs) s past r s' past'
  by_symbol v name rest r s' past' e q h =
      calls_same host (native_sought name rest) (native_called vs) s past r s' past'
      (λ w t. sym (ap (λ us. native_called us w t) e ∙ ap (λ o. named_native v o rest w t) q)) h

  pub by_no_symbol : (v : Val) (rest : List Val) (stop : Stop) → vs ≡ v ∷ rest → symbol_in v ≡ None → Tells TypeError v stop
      → Calls host (native_called vs) s past (Err stop) s past
  by_no_symbol v rest (Refused c) e q h =
      refused_at_once host (native_called vs) s past c
      (λ w. ap (λ us. native_called us w s) e ∙ ap (λ o. named_native v o rest w s) q ∙ ap (λ d. Stopped d w s) (sym h))
  by_no_symbol v rest Storage e q h = (refl, refl)

-- ---- a turn of the machine

pub asks_law : (host : Host) (vs : List Val) (s : ℕ) (past : List ℤ) (x : ℤ) (v : Value) (s' : ℕ) (past' : List ℤ) → v ≡ Int x
    → Calls host (native_called vs) s past (Ok x) s' past'
    → (m : Machine) (w : State) → Asks host (denote m (Native vs)) w s past (Ok (Give v)) m w s' past'
asks_law host vs s past x v s' past' q h m w =
    subst (λ y. Asks host (denote m (Native vs)) w s past (Ok (Give y)) m w s' past') (sym q) (
      1,
      x ∷ [],
      h.0 ∙ sym (one_more s'),
      h.1,
      λ t more. sym (ap (λ k. answered_by host (denote m (Native vs) w k) (x ∷ more)) (one_more t) ∙ (h.2 (at m w) t m.levels m.context more).0),
    )

pub notes_law : (host : Host) (vs : List Val) (s : ℕ) (past : List ℤ) (x : ℤ) (v : Value) (s' : ℕ) (past' : List ℤ) → v ≡ Int x
    → Calls host (native_called vs) s past (Ok x) s' past'
    → (m : Machine) (w : State) (u : Uses) → Notes host (denote m (Native vs)) w s past u (Ok (Give v)) m w s' past' u
notes_law host vs s past x v s' past' q h m w u =
    subst (λ y. Notes host (denote m (Native vs)) w s past u (Ok (Give y)) m w s' past' u) (sym q) (
      1,
      x ∷ [],
      [],
      h.0 ∙ sym (one_more s'),
      h.1,
      refl,
      λ t more. ap (λ k. notes_by host (denote m (Native vs) w k) (x ∷ more)) (one_more t) ∙ (h.2 (at m w) t m.levels m.context more).1,
    )

pub stops_law : (host : Host) (vs : List Val) (s : ℕ) (past : List ℤ) (stop : Stop) (s' : ℕ) (past' : List ℤ)
    → Calls host (native_called vs) s past (Err stop) s' past'
    → (m : Machine) (w : State) → Asks host (denote m (Native vs)) w s past (Err stop) m w s' past'
stops_law host vs s past (Refused c) s' past' h m w =
    (h.1, (h.2 (at m w) m.levels m.context).0 ∙ ap (λ k. Some (Signalled c (unbound w) k)) (sym h.0))
stops_law host vs s past Storage s' past' h m w = (h.1, refl, h.0)

pub notes_stop : (host : Host) (vs : List Val) (s : ℕ) (past : List ℤ) (stop : Stop) (s' : ℕ) (past' : List ℤ)
    → Calls host (native_called vs) s past (Err stop) s' past'
    → (m : Machine) (w : State) (u : Uses) → Notes host (denote m (Native vs)) w s past u (Err stop) m w s' past' u
notes_stop host vs s past (Refused c) s' past' h m w u = (h.1, ap (λ l. after_notes l u) (sym (h.2 (at m w) m.levels m.context).1))
notes_stop host vs s past Storage s' past' h m w u =
    (h.1, h.0, λ t. none_made (notes_by host (denote m (Native vs) w t) []) u u (record { kept = refl; built = inl refl }))
