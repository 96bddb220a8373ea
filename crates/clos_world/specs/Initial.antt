-- A session that begins.
use Rattle.std.specs.Prelude.{List, []}
use Rattle.lisp_data.specs.Name.{Name}
use Rattle.clos_class.specs.Table as classes
use Rattle.clos_comb.specs.Table as combinations
use Rattle.clos_generic.specs.Initial as generics
use Rattle.clos_store.specs.Store.{empty}
use Rattle.clos_world.specs.Hearing.{nothing_heard}
use Rattle.clos_world.specs.World.{State}
use Rattle.clos_world.specs.declared.limits.Limits.{Limits}

abbrev pub initial : Limits → List Name → State
initial limits dependents = record {
  classes = classes.initial limits.classes;
  generics = generics.initial limits.generics limits.methods;
  combinations = combinations.initial limits.combinations;
  functions = [];
  setters = [];
  globals = [];
  hearing = nothing_heard dependents;
  store = empty limits.instances limits.cells;
  written = [];
  limits = limits;
  locals = [];
}
