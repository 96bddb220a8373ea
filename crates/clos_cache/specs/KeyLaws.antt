-- The laws of `==` and of hashing for keys.
use Rattle.std.proofs.Common.{◌≡◌, true, ◌==◌, ap, sym, subst, true≢false, eqb-true, eq-eqb}
use Rattle.std.specs.Prelude.{IsTrue, Option, Some, None, refl}
use Rattle.std.specs.Bool.{Decides}
use Rattle.std.specs.Cmp.{IsEquivalence, decided, first_so, second_so}
use Rattle.std.specs.Cmp.Lexicographic.{pointwise, pointwise_decides}
use Rattle.lisp_data.specs.Value.{Val}
use Rattle.lisp_data.specs.inner.ValueCode.{value_code}
use Rattle.lisp_data.specs.Same.{both_so, same-Decides}
use Rattle.clos_cache.specs.Key.{Argument, Key, argument_writes, key_writes, same_argument, same_key, same_object}

from_same_object : (a b : Option Val) → same_object a b ≡ true → a ≡ b
from_same_object None None h = refl
from_same_object (Some v) (Some w) h = ap Some ((same-Decides value_code v w).0 h)
from_same_object None (Some w) h = absurd (true≢false (sym h))
from_same_object (Some v) None h = absurd (true≢false (sym h))

object_itself : (a : Option Val) → same_object a a ≡ true
object_itself None = refl
object_itself (Some v) = (same-Decides value_code v v).1 refl

from_same_argument : (a b : Argument) → same_argument a b ≡ true → a ≡ b
from_same_argument a b h = λ i. record {
  class = eqb-true a.class b.class (first_so (a.class == b.class) (same_object a.object b.object) h) i;
  object = from_same_object a.object b.object (second_so (a.class == b.class) (same_object a.object b.object) h) i;
}

argument_itself : (a : Argument) → same_argument a a ≡ true
argument_itself a = both_so (a.class == a.class) (same_object a.object a.object) (eq-eqb a.class a.class refl)
    (object_itself a.object)

pub same_argument-Decides : (a b : Argument) → Decides (same_argument a b) (a ≡ b)
same_argument-Decides a b = (from_same_argument a b, λ p. subst (λ c. same_argument a c ≡ true) p (argument_itself a))

arguments_alike : (a b : Key) → same_key a b ≡ true → a.arguments ≡ b.arguments
arguments_alike a b h =
    (pointwise_decides same_argument-Decides a.arguments b.arguments).0
    (second_so (a.generic == b.generic) (pointwise same_argument a.arguments b.arguments) h)

from_same_key : (a b : Key) → same_key a b ≡ true → a ≡ b
from_same_key a b h = λ i. record {
  generic = eqb-true a.generic b.generic (first_so (a.generic == b.generic) (pointwise same_argument a.arguments b.arguments) h) i;
  arguments = arguments_alike a b h i;
}

key_itself : (a : Key) → same_key a a ≡ true
key_itself a =
    both_so (a.generic == a.generic) (pointwise same_argument a.arguments a.arguments) (eq-eqb a.generic a.generic refl)
    ((pointwise_decides same_argument-Decides a.arguments a.arguments).1 refl)

pub same_key-Decides : (a b : Key) → Decides (same_key a b) (a ≡ b)
same_key-Decides a b = (from_same_key a b, λ p. subst (λ c. same_key a c ≡ true) p (key_itself a))

pub arguments_equiv : IsEquivalence same_argument
arguments_equiv = decided same_argument same_argument-Decides

pub keys_equiv : IsEquivalence same_key
keys_equiv = decided same_key same_key-Decides

pub arguments_feed : (a b : Argument) → IsTrue (same_argument a b) → argument_writes a ≡ argument_writes b
arguments_feed a b h = ap argument_writes (from_same_argument a b h)

pub keys_feed : (a b : Key) → IsTrue (same_key a b) → key_writes a ≡ key_writes b
keys_feed a b h = ap key_writes (from_same_key a b h)
