-- What is heard of an effect.
use Rattle.std.proofs.Common.{◌≡◌, ℕ, suc, ◌+◌, ◌≤◌, ◌++◌, List, [], ◌∷◌, drop, length, append-nil, length-append, arith, refl, ap, sym, ◌∙◌}
use Rattle.clos_meaning.specs.clos_world.World.{State}
use Rattle.clos_definition.specs.clos_watch.Watching.{Watching, heard_after, heard_from, times_told}
use Rattle.clos_definition.specs.clos_watch.declared.notice.Notice.{Notice}
use Rattle.clos_effects.specs.Hearing.{Heard}

-- ---- the notices since a state

drop_all : (xs : List Notice) → drop (length xs) xs ≡ []
drop_all [] = refl
drop_all (x ∷ xs) = drop_all xs

pub drop_old : (old new : List Notice) → drop (length old) (old ++ new) ≡ new
drop_old [] new = refl
drop_old (x ∷ xs) new = drop_old xs new

unheard_from : (w : Watching) (n : ℕ) (hs : List (List Notice)) → heard_from w [] n hs ≡ hs
unheard_from w n [] = refl
unheard_from w n (h ∷ hs) = ap (λ x. x ∷ heard_from w [] (suc n) hs) (append-nil h) ∙ ap (λ xs. h ∷ xs) (unheard_from w (suc n) hs)

module _ (told told' : List (List Notice)) where
  -- there are none, and nobody was told
  pub unheard : (w u : State) → told' ≡ told → u.hearing.notices ≡ w.hearing.notices → Heard told w told' u
  unheard w u same e =
      same ∙ sym (unheard_from w.hearing.watching 0 told)
      ∙ ap (λ xs. heard_after w.hearing.watching xs told) (sym (ap (drop (length w.hearing.notices)) e ∙ drop_all w.hearing.notices))

-- ---- of a change, for which there was room, those are told that hear of it

module _ (w mid u : State) (possible new : List Notice) (from : ℕ) (same : mid ≡ w) (grown : u.hearing.notices ≡ mid.hearing.notices ++ new)
    (watched : u.hearing.watching ≡ mid.hearing.watching) (counted : from ≡ length mid.hearing.notices) where
  they_are : drop from u.hearing.notices ≡ new
  they_are = ap (λ n. drop n u.hearing.notices) counted ∙ ap (drop (length mid.hearing.notices)) grown ∙ drop_old mid.hearing.notices new

  pub within : from ≤ length u.hearing.notices
  within =
      let n : length u.hearing.notices ≡ length mid.hearing.notices + length new = ap length grown ∙ length-append mid.hearing.notices new in
      omega (arith, counted, n)

  pub enough : ((p : ℕ) → times_told w.hearing.watching new p ≤ times_told w.hearing.watching possible p) → (p room : ℕ)
      → times_told w.hearing.watching possible p ≤ room
      → times_told u.hearing.watching (drop from u.hearing.notices) p ≤ room
  enough fits p room e =
      let n : times_told u.hearing.watching (drop from u.hearing.notices) p ≡ times_told w.hearing.watching new p =
      ap (λ x. times_told x (drop from u.hearing.notices) p) (watched ∙ ap (λ x. x.hearing.watching) same)
      ∙ ap (λ xs. times_told w.hearing.watching xs p) they_are in
      omega (arith, n, fits p, e)

  pub heard_then : (told before told' : List (List Notice)) → before ≡ told → told' ≡ heard_after u.hearing.watching (drop from u.hearing.notices) before
      → Heard told w told' u
  heard_then told before told' e h =
      h ∙ ap (heard_after u.hearing.watching (drop from u.hearing.notices)) e
      ∙ ap (λ x. heard_after x (drop from u.hearing.notices) told) (watched ∙ ap (λ x. x.hearing.watching) same)
      ∙ ap (λ n. heard_after w.hearing.watching (drop n u.hearing.notices) told) (counted ∙ ap (λ x. length x.hearing.notices) same)
