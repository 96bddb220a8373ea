-- Methods (HyperSpec 7.6.2, 7.6.3).
use Rattle.std.specs.Prelude.{Bool, false, ◌&&◌, List, []}
use Rattle.lisp_data.specs.Print.{Specializer}
use Rattle.lisp_data.specs.Value.{Val}
use Rattle.clos_method.specs.Qualifiers.{same_qualifiers}
use Rattle.clos_method.specs.Specializer.{same_specializers}
use Rattle.clos_method.specs.System.{system_method_shape, system_number, system_specializers}
use Rattle.clos_method.specs.declared.method.Method.{Method}
use Rattle.clos_method.specs.declared.method.MethodBody.TheVariants.{System}
use Rattle.clos_method.specs.declared.origin.Origin.TheVariants.{System as BySystem}
use Rattle.clos_method.specs.declared.system.SystemFunction.{SystemFunction}

-- Two methods of a function agree with each other on qualifiers and specializers (7.6.3): the later takes the place of the earlier.
abbrev pub is_alike : Method → List Val → List Specializer → Bool
is_alike m qualifiers specializers = same_qualifiers m.qualifiers qualifiers && same_specializers m.specializers specializers

-- the method that a function of the system has
abbrev pub system_method : SystemFunction → Method
system_method f = record {
  generic = record { 0 = system_number f };
  qualifiers = [];
  specializers = system_specializers f;
  shape = system_method_shape f;
  origin = BySystem;
  body = System f;
}
