-- What the loop over the files keeps.
use Rattle.std.specs.Prelude.{◌≡◌, ℕ, List, ◌++◌, Bool, Option, Some, IfSome}
use Rattle.std.specs.Io.KnownBytes.{Appends}
use Rattle.clos_ending.specs.clos_system.clos_session.Session.{Standing}
use Rattle.clos_ending.specs.clos_system.clos_session.clos_machine.clos_meaning.Host.{Host}
use Rattle.clos_program.specs.Files.{RanTexts, known_texts}

-- where the loop over the names stands: so much is known of the input then
pub record SoFar (host now : Host) (echo : Bool) (text : List ℕ → Option (List ℕ)) (input input' : Option (List ℕ)) (names left : List (List ℕ))
    (start standing : Standing) (old new : Option (List ℕ)) (told : Bool) : Type 0 where
  pub stays : now ≡ host
  pub done : List (Option (List ℕ))
  pub known : Option (List ℕ)
  pub all : known_texts text input names ≡ done ++ known_texts text known left
  pub is : IfSome known (λ bytes. input' ≡ Some bytes)
  pub out : List ℕ
  pub ran : RanTexts host echo start done standing out told
  pub appends : Appends old new out
