-- The limits of a session that asks for no others.
use Rattle.clos_world.specs.declared.limits.Limits.{Limits}

abbrev pub standard : Limits
standard = record {
  steps = 1000000;
  depth = 1000;
  classes = 4096;
  generics = 4096;
  methods = 65536;
  combinations = 1024;
  instances = 1000000;
  cells = 65536;
  functions = 65536;
  globals = 65536;
}
