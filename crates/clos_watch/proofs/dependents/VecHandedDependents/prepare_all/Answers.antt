use Rattle.std.proofs.Common.{rules}
use Rattle.clos_watch.specs.Watching.{times_told, watching}
use Rattle.clos_watch.proofs.AtPlace.{all_ready, room_kept, told_kept, written}
use Rattle.clos_watch.proofs.dependents.VecHandedDependents.prepare_all.Goals as goal

pub returns-clause-ok : goal.returns-clause-ok
returns-clause-ok g c =
    all_ready (λ d. d.0) _ (times_told (watching c.args.watchers.now) c.args.notices.now) _ c.prepare_all.new.dependents
    c.prepare_all.result
    (written (λ d. d.0) c.args.self.now.items c.prepare_all.new.dependents c.args.self.now.len (search rules) (search rules))
    c.prepare_all.ensures.ok

pub returns-clause-told : goal.returns-clause-told
returns-clause-told g c =
    told_kept _ (λ d. (goal.Dependent-dyn g (d.1.vtable, d.1.value)).room d.1.value) c.args.self.now.items c.prepare_all.new.dependents
    (λ p d e h i. c.prepare_all.ensures.same p d e (search rules) i) (λ d. d.0) _
    (written (λ d. d.0) c.args.self.now.items c.prepare_all.new.dependents c.args.self.now.len (search rules) (search rules)) (search rules)

pub returns-clause-room : goal.returns-clause-room
returns-clause-room g c =
    room_kept (λ d. (goal.Dependent-dyn g (d.1.vtable, d.1.value)).told d.1.value) _ c.args.self.now.items c.prepare_all.new.dependents
    (λ p d e h i. c.prepare_all.ensures.same p d e (search rules) i) (λ d. d.0) _
    (written (λ d. d.0) c.args.self.now.items c.prepare_all.new.dependents c.args.self.now.len (search rules) (search rules)) (search rules)
