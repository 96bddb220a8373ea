-- The functions that a host stored, as the meaning of forms sees them.
use Rattle.std.specs.Prelude.{ℕ, List, Option, option_map}
use Rattle.lisp_data.specs.Name.{Name}
use Rattle.clos_native.specs.Relation.{permits}
use Rattle.clos_native.specs.Stored.{native_named}
use Rattle.clos_native.specs.declared.native.Native.{Native}
use Rattle.clos_machine.specs.clos_meaning.Host.{Host, HostFunction}

-- what is known of a function
abbrev pub host_function : {I : Type 0} {F : I → Type 0} {g : _} → Native I F g → HostFunction
host_function f = record { takes = f.arity; permits = permits f.relation }

-- by their names; of two with one name the first is called
abbrev pub host_of : {I : Type 0} {F : I → Type 0} {g : _} → List (Native I F g) → Host
host_of fs name = option_map host_function (native_named fs name)

-- how many integers the function of a name takes
abbrev pub takes_in : Host → Name → Option ℕ
takes_in host name = option_map (λ f. f.takes) (host name)
