-- What the code's refusals stand for.
use Rattle.std.specs.Prelude.{ℕ}
use Rattle.lisp_data.specs.declared.ids.MethodId.{MethodId}
use Rattle.clos_groups.specs.Refusal as of
use Rattle.clos_groups.specs.declared.refusal.GroupRefusal.{GroupRefusal}
use Rattle.clos_groups.specs.declared.refusal.GroupRefusal.TheVariants.{InvalidMethod, GroupEmpty, AmbiguousMethods}

-- the numbers of two methods
abbrev pub pair_of : MethodId × MethodId → ℕ × ℕ
pair_of p = (p.0.0, p.1.0)

-- the refusal that the code's is
abbrev pub refusal_of : GroupRefusal → of.Refusal
refusal_of (InvalidMethod m) = of.invalid_method m.0
refusal_of (GroupEmpty place) = of.group_empty place
refusal_of (AmbiguousMethods m n) = of.ambiguous_methods m.0 n.0
