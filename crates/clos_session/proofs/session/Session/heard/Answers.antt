use Rattle.std.proofs.Common.{◌≡◌, ℕ, List, [], Some, None, ap, sym, ◌∙◌}
use Rattle.std.specs.Prelude.{option_map, slice_get, unwrap_or}
use Rattle.clos_perform.specs.clos_watch.Handed.{place_of}
use Rattle.clos_perform.specs.clos_watch.declared.notice.Notice.{Notice}
use Rattle.clos_perform.specs.clos_world.Hearing.{hearing_of}
use Rattle.clos_perform.proofs.clos_definition.clos_world.Heard.{names_kept}
use Rattle.clos_session.proofs.session.Session.heard.Goals as goal

pub returns-in-Some : goal.returns-in-Some
returns-in-Some g c =
    let h = c.args.self.now.world.hearing in
    let told : ℕ → List Notice = λ p. unwrap_or (slice_get (g.D.Dependents.told c.args.self.now.dependents) p) [] in
    let found : place_of (hearing_of h).names c.args.name.now ≡ Some c.in-Some.place =
    ap (λ ns. place_of ns c.args.name.now) (names_kept h ∙ sym c.as_slice.ensures.value) ∙ sym c.place_of.ensures ∙ c.in-Some.is in
    ap Some c.heard.ensures ∙ sym (ap (option_map told) found)

pub returns-in-None : goal.returns-in-None
returns-in-None g c =
    let h = c.args.self.now.world.hearing in
    let told : ℕ → List Notice = λ p. unwrap_or (slice_get (g.D.Dependents.told c.args.self.now.dependents) p) [] in
    let found : place_of (hearing_of h).names c.args.name.now ≡ None =
    ap (λ ns. place_of ns c.args.name.now) (names_kept h ∙ sym c.as_slice.ensures.value) ∙ sym c.place_of.ensures ∙ c.in-None.is in
    sym (ap (option_map told) found)
