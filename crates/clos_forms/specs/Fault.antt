-- What a parse answers: what the definition gives, or a fault where it gives nothing.
use Rattle.std.specs.Prelude.{◌≡◌, Option, Some, None, Result, Ok, Err, ⊤}
use Rattle.clos_forms.specs.declared.fault.SyntaxFault.{SyntaxFault}
use Rattle.clos_forms.specs.declared.fault.SyntaxFault.TheVariants.{Program, Memory}

-- It goes on where something is given.
infixl 10 ◌>>=◌
-- where nothing is given, nothing comes of it
abbrev pub ◌>>=◌ : {A B : Type 0} → Option A → (A → Option B) → Option B
(Some x) >>= f = f x
None >>= f = None

-- want of memory says nothing
abbrev pub Fails : {B : Type 0} → SyntaxFault → Option B → Type 0
Fails Program d = d ≡ None
Fails Memory d = ⊤

-- what a function answers, seen so, is what the definition gives, unless memory ran out
abbrev pub Gives : {A B : Type 0} → (A → B) → Result A SyntaxFault → Option B → Type 0
Gives view (Ok x) d = d ≡ Some (view x)
Gives view (Err e) d = Fails e d
