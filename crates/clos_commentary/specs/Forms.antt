-- What a text has left where its forms were performed.
use Rattle.std.specs.Prelude.{◌≢◌, ℕ, ◌≤◌, List, length, drop}
use Rattle.lisp_reader.specs.Answers.{Gives, nothing_left, a_fault}
use Rattle.lisp_tokens.specs.declared.fault.ReadFault.{ReadFault}
use Rattle.lisp_tokens.specs.Fault.{OnFault, OnRefusal, end_inside}
use Rattle.clos_commentary.specs.declared.forms.Left.{Left}
use Rattle.clos_commentary.specs.declared.forms.Left.TheVariants.{Nothing, Open, Unread}

-- from an offset on: nothing, a datum or comment that is open, or what can't be read
abbrev pub Leaves : List ℕ → ℕ → Left → Type 0
Leaves text at Nothing = Gives (drop at text) nothing_left
Leaves text at (Open k) = (k ≤ length text) × Gives (drop at text) (a_fault end_inside (drop k text))
Leaves text at (Unread fault k) =
    (k ≤ length text) × OnRefusal fault (λ kind _. (kind ≢ end_inside) × Gives (drop at text) (a_fault kind (drop k text))) ⊥

-- a fault that reading the text from an offset on gives
abbrev pub IsRefused : List ℕ → ℕ → ReadFault → Type 0
IsRefused text at fault = OnFault fault (λ kind k. (k ≤ length text) × Gives (drop at text) (a_fault kind (drop k text)))
