-- Forms one after another, and conditionals (HyperSpec 5.3).
use Rattle.std.specs.Prelude.{Bool, if◌then◌else◌}
use Rattle.lisp_data.specs.Value.{Val, list, nil}
use Rattle.clos_forms.specs.Form.{Forms, parts_in}
use Rattle.clos_forms.specs.Form as form
use Rattle.clos_meaning.specs.Contexts.{Context}
use Rattle.clos_meaning.specs.Outcome.{Gave, Run, Eval, then_do, is_true}

-- ---- forms one after another (5.3): progn, and what goes on only where values are true or false

-- this value, after these forms
abbrev pub keeping : Eval → Context → Forms → Val → Run
keeping ev env form.nil v w s = Gave v w s
keeping ev env (form.cons f fs) v w s = then_do (ev env f w s) (λ u. keeping ev env fs v)

-- the value of the last of these forms, or this one
abbrev pub sequence : Eval → Context → Forms → Val → Run
sequence ev env form.nil v w s = Gave v w s
sequence ev env (form.cons f fs) v w s = then_do (ev env f w s) (λ u. sequence ev env fs u)

-- the same, but a value that is not true ends it
abbrev pub while_true : Eval → Context → Forms → Val → Run
while_true ev env form.nil v w s = Gave v w s
while_true ev env (form.cons f fs) v w s = then_do (ev env f w s) (λ u t k. if is_true u then while_true ev env fs u t k else Gave u t k)

-- the same, but a value that is true ends it
abbrev pub until_true : Eval → Context → Forms → Val → Run
until_true ev env form.nil v w s = Gave v w s
until_true ev env (form.cons f fs) v w s = then_do (ev env f w s) (λ u t k. if is_true u then Gave u t k else until_true ev env fs u t k)

-- of an if form: the form where its test holds, and the one where not, if there is one
abbrev pub branch : Eval → Context → Bool → Forms → Run
branch ev env b form.nil w s = Gave (list nil) w s
branch ev env b (form.cons f fs) w s = if b then ev env f w s else sequence ev env fs (list nil) w s

-- the same by the value of its test
abbrev pub branch_by : Eval → Context → Forms → Val → Run
branch_by ev env fs v w s = branch ev env (is_true v) fs w s

-- these forms where a value is true, and where it is not
abbrev pub where_true : Eval → Context → Forms → Val → Run
where_true ev env fs v w s = if is_true v then sequence ev env fs (list nil) w s else Gave (list nil) w s

-- the same turned round, for unless: these forms where a value is NIL, and NIL where it is not
abbrev pub where_false : Eval → Context → Forms → Val → Run
where_false ev env fs v w s = if is_true v then Gave (list nil) w s else sequence ev env fs (list nil) w s

-- what follows the value of one of the forms of and, and of or
abbrev pub and_then : Eval → Context → Forms → Val → Run
and_then ev env fs v w s = if is_true v then while_true ev env fs v w s else Gave v w s

-- a true value ends or: it is given, and the forms after it are not evaluated
abbrev pub or_then : Eval → Context → Forms → Val → Run
or_then ev env fs v w s = if is_true v then Gave v w s else until_true ev env fs v w s

-- the first of these forms, and then what is done with the others by its value; this value where there are none
abbrev pub first_then : Eval → Context → Forms → (Forms → Val → Run) → Val → Run
first_then ev env form.nil go v w s = Gave v w s
first_then ev env (form.cons f fs) go v w s = then_do (ev env f w s) (λ u. go fs u)

-- ---- the clauses of a cond form (5.3): of the first whose test holds, the forms, or the test's value where there are none

-- a clause's forms where its test has a true value, else the rest
abbrev pub tested : Eval → Context → Forms → Run → Val → Run
tested ev env fs rest v w s = if is_true v then sequence ev env fs v w s else rest w s

-- the test of one clause is evaluated; the clauses after it are come to only where it does not hold
abbrev pub clause : Eval → Context → Forms → Run → Run
clause ev env form.nil rest w s = Gave (list nil) w s
clause ev env (form.cons f fs) rest w s = then_do (ev env f w s) (λ v. tested ev env fs rest v)

-- one after another; NIL where the test of none holds
abbrev pub clauses : Eval → Context → Forms → Run
clauses ev env form.nil w s = Gave (list nil) w s
clauses ev env (form.cons c cs) w s = clause ev env (parts_in c) (λ t k. clauses ev env cs t k) w s
