-- The specializers of methods as keys of a map: the test behind `==`, and what is fed a hasher.
use Rattle.std.specs.Prelude.{◌≡◌, List, IsTrue}
use Rattle.std.proofs.Common.{ap, flat_map}
use Rattle.std.specs.Cmp.{IsEquivalence, decided}
use Rattle.std.specs.Hash as fed
use Rattle.std.specs.Hash.{HashWrites}
use Rattle.lisp_data.specs.Keys.{value_writes}
use Rattle.lisp_data.specs.Print.{Specializer, on_class, on_eql}
use Rattle.clos_method.specs.Specializer.{same_specializers}
use Rattle.clos_method.specs.SpecializerLaws.{same_specializers-Decides}

-- what one specializer feeds: the number of its class, or its object
abbrev pub specializer_writes : Specializer → HashWrites
specializer_writes (on_class c) = fed.u64 c
specializer_writes (on_eql v) = value_writes v

-- what all of them feed, each in turn
abbrev pub key_writes : List Specializer → HashWrites
key_writes ss = flat_map specializer_writes ss

pub keys_equiv : IsEquivalence same_specializers
keys_equiv = decided same_specializers same_specializers-Decides

pub keys_feed : (a b : List Specializer) → IsTrue (same_specializers a b) → key_writes a ≡ key_writes b
keys_feed a b h = ap key_writes ((same_specializers-Decides a b).0 h)
