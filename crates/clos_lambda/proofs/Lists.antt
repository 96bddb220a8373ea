-- Lists of things, one after another.
use Rattle.std.proofs.Common.{◌≡◌, map, Bool, List, [], ◌∷◌, ◌++◌, Option, Some, None, refl, ap, sym, append_assoc}
use Rattle.std.specs.Prelude.{◌||◌}
use Rattle.std.specs.List.{list_any}
use Rattle.clos_forms.specs.Fault.{◌>>=◌}
use Rattle.lisp_data.specs.Datum.{Dats, cons}
use Rattle.lisp_data.specs.DatumView.{datum_of}
use Rattle.lisp_data.specs.declared.datum.Datum.{Datum}
use Rattle.clos_lambda.specs.Lists.{ahead, before}

pub one_more : {A : Type 0} (xs : List A) (x : A) (o : Option (List A)) → before xs (o >>= λ ys. Some (x ∷ ys)) ≡ before (xs ++ x ∷ []) o
one_more xs x None = refl
one_more xs x (Some ys) = ap Some (sym (append_assoc xs (x ∷ []) ys))

pub some_more : {A : Type 0} (xs zs : List A) (o : Option (List A)) → before xs (o >>= λ ys. Some (zs ++ ys)) ≡ before (xs ++ zs) o
some_more xs zs None = refl
some_more xs zs (Some ys) = ap Some (sym (append_assoc xs zs ys))

pub one_ahead : (ds : List Datum) (d : Datum) (l : Dats) → ahead (map datum_of (ds ++ d ∷ [])) l ≡ ahead (map datum_of ds) (cons (datum_of d) l)
one_ahead [] d l = refl
one_ahead (e ∷ ds) d l = ap (cons (datum_of e)) (one_ahead ds d l)

pub any_of_map : {A B : Type 0} (f : A → B) (p : B → Bool) (xs : List A) → list_any p (map f xs) ≡ list_any (λ x. p (f x)) xs
any_of_map f p [] = refl
any_of_map f p (x ∷ xs) = ap (λ b. p (f x) || b) (any_of_map f p xs)
