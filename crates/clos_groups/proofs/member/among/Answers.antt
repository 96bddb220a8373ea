use Rattle.std.proofs.Common.{rules, ◌≡◌, ◌==◌, ℕ, Bool, true, false, [], ◌∷◌, ◌++◌, ap, sym, ◌∙◌, get_or}
use Rattle.std.proofs.lemmas.List.{map-append}
use Rattle.std.specs.List.{list_any}
use Rattle.lisp_data.specs.declared.ids.MethodId.{MethodId}
use Rattle.clos_method.specs.MethodIds.{method_numbers}
use Rattle.clos_groups.proofs.Among.{next}
use Rattle.clos_groups.proofs.member.among.Goals as goal
use Rattle.clos_groups.proofs.member.among.Goals.{then-contains+in_ok-push, else-contains}

-- src/member.rt:44:5
pub loop-id-preserved : goal.loop-id-preserved
loop-id-preserved c =
    let d : MethodId = record { 0 = 0 } in
    let m = (get_or c.args.added.now c.loop-id.id-index d).0 in
    let is_known : ℕ → Bool = λ m. list_any (λ n. n == m) (method_numbers c.args.ids.now) in
    elim c.if-contains.branch [
      | then-contains+in_ok-push w ↦
          let is : is_known m ≡ true = search (rules, c.in_ok-known.ensures m) in
          let pushed : method_numbers c.if-contains.members.items ≡ method_numbers c.loop-id.members.items ++ m ∷ [] =
          ap method_numbers (ap (λ v. v.items) w.members-is ∙ w.in_ok-push.ensures.items) ∙ map-append (λ m. m.0) c.loop-id.members.items (get_or c.args.added.now c.loop-id.id-index d ∷ [])
          in pushed ∙ ap (λ ms. ms ++ m ∷ []) c.loop-id.invariant ∙ sym (next is_known true c.args.added.now c.loop-id.id-index d c.loop-id-test.true is)
      | else-contains w ↦
          let is : is_known m ≡ false = search (rules, c.in_ok-known.ensures m)
          in search (rules, next is_known false c.args.added.now c.loop-id.id-index d c.loop-id-test.true is)
    ]
