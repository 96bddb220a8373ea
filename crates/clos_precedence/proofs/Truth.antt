-- Truth values.
use Rattle.std.proofs.Common.{◌≡◌, Bool, true, false, inl, inr, refl, sym}
use Rattle.std.specs.Prelude.{not, ◌&&◌, ◌||◌, ◌⊎◌}

pub and_left : (a b : Bool) → (a && b) ≡ true → a ≡ true
and_left true b h = refl
and_left false b h = h

pub and_right : (a b : Bool) → (a && b) ≡ true → b ≡ true
and_right true b h = h
and_right false b h = cc

pub both : (a b : Bool) → a ≡ true → b ≡ true → (a && b) ≡ true
both true b h k = k
both false b h k = h

pub or_left : (a b : Bool) → a ≡ true → (a || b) ≡ true
or_left true b h = refl
or_left false b h = cc

pub or_right : (a b : Bool) → b ≡ true → (a || b) ≡ true
or_right true b h = refl
or_right false b h = h

pub nearer_if : (a b c : Bool) → b ≡ false → (a || c) ≡ true → (not b && (a || c)) ≡ true
nearer_if a true c h k = cc
nearer_if a false c h k = k

pub or_between : (a b c : Bool) → (a || c) ≡ true → (a || (b || c)) ≡ true
or_between true b c h = refl
or_between false true c h = refl
or_between false false c h = h

pub no_way : {A : Type 0} (a d : Bool) → a ≡ true → d ≡ false → (not a || d) ≡ true → A
no_way true true h k l = cc
no_way true false h k l = cc
no_way false d h k l = cc

pub after_first : (a b : Bool) → a ≡ false → (a || b) ≡ true → b ≡ true
after_first true b h k = cc
after_first false b h k = k

pub neither : (a b : Bool) → (a || b) ≡ false → (a ≡ false) × (b ≡ false)
neither true b h = cc
neither false b h = (refl, h)

pub kept_or : (a b c : Bool) → (a || b) ≡ true → (b ≡ true → c ≡ true) → (a || c) ≡ true
kept_or true b c h r = refl
kept_or false b c h r = r h

pub only_left : (a : Bool) → (a || false) ≡ true → a ≡ true
only_left true h = refl
only_left false h = h

pub not_either : (a b : Bool) → a ≡ false → b ≡ false → (a || b) ≡ false
not_either true b h k = cc
not_either false b h k = k

pub turned : (a : Bool) → a ≡ false → not a ≡ true
turned true h = cc
turned false h = refl

pub either : (a b : Bool) → (a || b) ≡ true → (a ≡ true) ⊎ (b ≡ true)
either true b h = inl refl
either false b h = inr h

pub nothing : {A : Type 0} → false ≡ true → A
nothing h = cc

pub same_truth : (a b : Bool) → (a ≡ true → b ≡ true) → (b ≡ true → a ≡ true) → a ≡ b
same_truth true b h k = sym (h refl)
same_truth false true h k = k refl
same_truth false false h k = refl
