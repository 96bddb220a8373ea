use Rattle.std.proofs.Common.{◌≡◌, ◌++◌}
use Rattle.std.specs.Prelude.{option_map}
use Rattle.std.specs.List.{filter}
use Rattle.clos_method.specs.MethodIds.{method_numbers}
use Rattle.clos_generic.specs.Accessors.{accessors_there, is_there}
use Rattle.clos_generic.specs.inner.AccessorMethods.{IsAccessor, accessors_up_to, numbers_left}
use Rattle.clos_generic.proofs.table.Generics.accessors_there.Given as goal

abbrev pub invariant-loop-left : goal.invariant-loop-left
invariant-loop-left l = record {
  found :
      filter (is_there l.self.table) (accessors_up_to l.self.table.methods l.fn.class.0 (option_map (λ m. m.0) l.left)) ++ method_numbers l.there.items
      ≡ accessors_there l.self.table l.fn.class.0;
  accessor : IsAccessor l.self.table.methods l.fn.class.0 (option_map (λ m. m.0) l.left);
}

abbrev pub decreases-loop-left : goal.decreases-loop-left
decreases-loop-left l = numbers_left (option_map (λ m. m.0) l.left)
