-- What follows a run over files.
use Rattle.std.proofs.Common.{◌≡◌, ◌⊎◌, ℕ, List, ◌∷◌, ◌++◌, Option, Some, None, Result, Ok, Err, Bool, true, false, length, refl, subst, inl, inr}
use Rattle.std.specs.Prelude.{IfOk, IfErr, MatchResult}
use Rattle.std.specs.Io.KnownBytes.{Appends, Keeps}
use Rattle.clos_ending.specs.clos_system.clos_session.Session.{Standing}
use Rattle.clos_ending.specs.clos_system.clos_session.clos_machine.clos_meaning.Host.{Host}
use Rattle.clos_program.specs.Files.{RanAll, RunsFiles, Stopped, StopsAt}
use Rattle.clos_program.specs.Lines.{lined, lined_of}
use Rattle.clos_program.specs.Notices.{with_asked}
use Rattle.clos_ending.specs.Status.{fault_status, status_of}
use Rattle.clos_program.specs.Program.{Tells, is_new}
use Rattle.clos_program.specs.declared.output.Output.{Output}
use Rattle.clos_program.proofs.Following.{begins, fails_on, fails_unknown, nothing, passed, told_after}
use Rattle.clos_program.proofs.Lines.{came, new_lined, stayed}

module _ (host : Host) (echo : Bool) (texts : List (Option (List ℕ))) (start end : Standing) where
  -- notices follow, where they are asked for
  follows : (notices : Bool) (k0 k1 k2 k3 : Option (List ℕ)) (c1 c2 c3 : ℕ) (f1 f2 f3 told : Bool) (status : ℕ)
      → RanAll host echo texts start end (lined 0 true k0) (lined c1 f1 k1) told → Tells notices end f1 (lined c1 f1 k1) (lined c2 f2 k2)
      → Keeps (lined c2 f2 k2) (lined c3 f3 k3) → (status ≡ status_of told) ⊎ (status ≡ fault_status)
      → RunsFiles host echo notices texts start end k0 k3 status
  follows notices None k1 k2 k3 c1 c2 c3 f1 f2 f3 told status r t k s =
      inl (r.0, told, r.1, elim s [ inl e ↦ inl (e, tt) | inr e ↦ inr (e, inr tt) ])
  follows notices (Some all) k1 k2 k3 c1 c2 c3 f1 f2 f3 told status r t k s =
      let l1 : lined c1 f1 k1 ≡ Some (length all ∷ (all ++ r.0)) =
      passed (length all) all (lined 0 true (Some all)) k1 c1 f1 r.0 (new_lined all) r.2 in
      let new : k3 ≡ Some (all ++ with_asked notices end r.0) = told_after end notices all r.0 k1 k2 k3 c1 c2 c3 f1 f2 f3 l1 t k in
      inl (r.0, told, r.1, elim s [ inl e ↦ inl (e, rw new refl) | inr e ↦ inr (e, only r.0 notices new) ])
    where
      only : (out : List ℕ) (asked : Bool) → k3 ≡ Some (all ++ with_asked asked end out) → (asked ≡ true) ⊎ Appends (Some all) k3 out
      only out true h = inl refl
      only out false h = inr (rw h refl)

  -- a file stopped the run
  stops : (notices : Bool) (k0 k1 k3 : Option (List ℕ)) (c1 c3 : ℕ) (f1 f3 : Bool) (status : ℕ)
      → Stopped host echo texts start end (lined 0 true k0) (lined c1 f1 k1) → Keeps (lined c1 f1 k1) (lined c3 f3 k3)
      → status ≡ fault_status → RunsFiles host echo notices texts start end k0 k3 status
  stops notices k0 k1 k3 c1 c3 f1 f3 status s k is =
      let r = go k0 s.appends s.stops in
      inr (is, r.0, r.1, r.2)
    where
      at : (old came new : Option (List ℕ)) → Appends old came s.out → StopsAt host echo s.left s.standing end came new
          → Stopped host echo texts start end old new
      at old came new a h = record {
        done = s.done;
        left = s.left;
        all = s.all;
        standing = s.standing;
        out = s.out;
        told = s.told;
        ran = s.ran;
        came = came;
        appends = a;
        stops = h;
      }

      go : (k0 : Option (List ℕ)) → Appends (lined 0 true k0) s.came s.out → StopsAt host echo s.left s.standing end s.came (lined c1 f1 k1)
          → (written : Option (List ℕ)) × Stopped host echo texts start end k0 written × Keeps written k3
      go None a (inl h) = (None, at None None None tt (inl (h.0, tt)), tt)
      go None a (inr h) = (
        None,
        at None None None tt
            (inr (h.0, h.1, h.2, (h.3.0, fails_unknown host echo h.0 s.standing end s.came (lined c1 f1 k1) h.3.0 h.3.1))),
        tt,
      )
      go (Some all) a (inl h) =
          let c : s.came ≡ Some (length all ∷ (all ++ s.out)) =
          came (length all ∷ all) s.came s.out (subst (λ x. Appends x s.came s.out) (new_lined all) a) in
          let l : lined c1 f1 k1 ≡ Some (length all ∷ (all ++ s.out)) =
          stayed (length all ∷ (all ++ s.out)) (lined c1 f1 k1) (subst (λ x. Keeps x (lined c1 f1 k1)) c h.1) in (
            Some (all ++ s.out),
            at (Some all) (Some (all ++ s.out)) (Some (all ++ s.out)) refl (inl (h.0, refl)),
            nothing (length all) (all ++ s.out) (lined c1 f1 k1) k3 c3 f3 l k,
          )
      go (Some all) a (inr h) =
          let c : s.came ≡ Some (length all ∷ (all ++ s.out)) =
          came (length all ∷ all) s.came s.out (subst (λ x. Appends x s.came s.out) (new_lined all) a) in
          let r = fails_on host echo h.0 s.standing end (length all) (all ++ s.out) s.came k1 k3 c1 c3 f1 f3 c h.3.0 h.3.1 k in
          (r.0, at (Some all) (Some (all ++ s.out)) r.0 refl (inr (h.0, h.1, h.2, (h.3.0, r.1))), r.2)

  -- whatever came of the files and of what follows them
  pub comes : {W F : Type 0} (contents : W → Option (List ℕ)) (o0 o1 o2 o3 : Output W) (notices : Bool) (ran told : Result Bool F)
      (status : ℕ) → is_new o0 → IfOk ran (RanAll host echo texts start end (lined_of contents o0) (lined_of contents o1))
      → IfErr ran (λ _. Stopped host echo texts start end (lined_of contents o0) (lined_of contents o1))
      → IfOk ran (λ t. MatchResult told (λ r. (r ≡ t)
      × Tells notices end o1.fresh (lined_of contents o1) (lined_of contents o2)) (λ _. notices ≡ true))
      → IfErr ran (λ _. MatchResult told (λ _. ⊥) (λ _. o2 ≡ o1)) → Keeps (lined_of contents o2) (lined_of contents o3)
      → MatchResult told (λ t. (status ≡ status_of t) ⊎ (status ≡ fault_status)) (λ _. status ≡ fault_status)
      → RunsFiles host echo notices texts start end (contents o0.writer) (contents o3.writer) status
  comes contents o0 o1 o2 o3 notices (Ok t) (Ok r) status new a b h d k s =
      follows notices (contents o0.writer) (contents o1.writer) (contents o2.writer) (contents o3.writer) o1.count o2.count o3.count
      o1.fresh o2.fresh o3.fresh t status
      (subst (λ l. RanAll host echo texts start end l (lined_of contents o1) t) (begins (contents o0.writer) o0.count o0.fresh new.0 new.1)
      a)
      h.1 k (subst (λ x. (status ≡ status_of x) ⊎ (status ≡ fault_status)) h.0 s)
  comes contents o0 o1 o2 o3 notices (Ok t) (Err e) status new a b h d k s = inl (a.0, t, a.1, inr (s, inl h))
  comes contents o0 o1 o2 o3 notices (Err e) (Ok r) status new a b h d k s = absurd d
  comes contents o0 o1 o2 o3 notices (Err e) (Err e') status new a b h d k s =
      stops notices (contents o0.writer) (contents o1.writer) (contents o3.writer) o1.count o3.count o1.fresh o3.fresh status
      (subst (λ l. Stopped host echo texts start end l (lined_of contents o1)) (begins (contents o0.writer) o0.count o0.fresh new.0 new.1)
      b)
      (subst (λ o. Keeps (lined_of contents o) (lined_of contents o3)) d k) s
