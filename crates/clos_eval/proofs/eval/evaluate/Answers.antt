use Rattle.std.proofs.Common.{[], arith, ap, append-nil, refl, sym}
use Rattle.clos_machine.specs.clos_world.Uses.{uses_of}
use Rattle.clos_machine.specs.clos_world.World.{seen}
use Rattle.clos_machine.specs.clos_meaning.Contexts.{known}
use Rattle.clos_machine.specs.clos_meaning.Meaning.{evaluation}
use Rattle.clos_machine.specs.Machine.{denote}
use Rattle.clos_machine.specs.declared.machine.Doing.TheVariants.{Start, Act, Invoke, Perform, Tend, Native, Give}
use Rattle.clos_machine.specs.declared.machine.Doing.TheVariants as doing
use Rattle.clos_machine.proofs.clos_meaning.Quiet.{evaluation_quiet}
use Rattle.clos_machine.proofs.Runs.{quiet_answered}
use Rattle.clos_machine.proofs.Uses.{nothing_kept, turns_by}
use Rattle.clos_eval.proofs.Looping.{Did, begun, did, finished, finished_after, gave, goes_on, stops, turned, went}
use Rattle.clos_eval.proofs.eval.evaluate.Goals as goal
use Rattle.clos_eval.proofs.eval.evaluate.Goals.{in-Start, in-Collect, in-Act, in-Invoke, in-Perform, in-Turn, in-Tend, in-Native, in-Give+in-Some}

pub returns-in_default-clause-performs : goal.returns-in_default-clause-performs
returns-in_default-clause-performs g c =
    let host = g.N.Natives.host c.args.natives.now in
    let run = evaluation c.args.room c.args.form in
    let w = seen c.args.world.now in
    let s = c.args.steps.now in
    let past = c.args.answers.now.items in record {
      answer = ([], sym (append-nil past), 0, omega arith, quiet_answered host (run w 0) w 0 (evaluation_quiet c.args.room (known []) c.args.form w));
      uses = nothing_kept host run w s past (uses_of c.args.world.now);
    }

-- what the handler of each did, and that the loop goes on from there
pub loop-doing-preserved : goal.loop-doing-preserved
loop-doing-preserved g c =
    let host = g.N.Natives.host c.args.natives.now in
    let m = c.loop-doing.machine in
    let d = c.loop-doing.doing in
    let world = c.loop-doing.world in
    let s = c.loop-doing.steps in
    let past = c.loop-doing.answers.items in
    let t : Did host m d world s past c.match-doing.came c.match-doing.machine c.match-doing.world c.match-doing.steps c.match-doing.answers.items =
    elim c.match-doing.branch [
      | in-Start x ↦ went host m d world s past (Start x.in-Start.begun) x.in-Start.is x.came-is x.machine-is x.world-is x.steps-is
          (ap (λ v. v.items) x.answers-is) x.begin_form-came.ensures.turns
      | in-Collect x ↦
          went host m d world s past (doing.Collect x.in-Collect.action x.in-Collect.forms x.in-Collect.values) x.in-Collect.is x.came-is
          x.machine-is x.world-is x.steps-is (ap (λ v. v.items) x.answers-is) x.collect_values-came.ensures.turns
      | in-Act x ↦
          turned host m d world s past (Act x.in-Act.action x.in-Act.values) x.in-Act.is x.came-is x.machine-is x.world-is x.steps-is
          (ap (λ v. v.items) x.answers-is) x.act-came.ensures.turns
      | in-Invoke x ↦
          turned host m d world s past (Invoke x.in-Invoke.function x.in-Invoke.values) x.in-Invoke.is x.came-is x.machine-is x.world-is
          x.steps-is (ap (λ v. v.items) x.answers-is)
          (turns_by (denote m (Invoke x.in-Invoke.function x.in-Invoke.values)) (seen world) (seen x.invoke-came.new.world) s (uses_of world)
          (uses_of x.invoke-came.new.world) x.invoke-came.result x.invoke-came.new.machine x.invoke-came.ensures.same x.invoke-came.ensures.leads)
      | in-Perform x ↦
          turned host m d world s past (Perform x.in-Perform.method x.in-Perform.arguments) x.in-Perform.is x.came-is x.machine-is x.world-is
          x.steps-is (ap (λ v. v.items) x.answers-is) x.perform-came.ensures.turns
      | in-Turn x ↦
          went host m d world s past (doing.Turn x.in-Turn.repetition x.in-Turn.counter) x.in-Turn.is x.came-is x.machine-is x.world-is
          x.steps-is (ap (λ v. v.items) x.answers-is) x.turn-came.ensures.turns
      | in-Tend x ↦
          turned host m d world s past (Tend x.in-Tend.task) x.in-Tend.is x.came-is x.machine-is x.world-is x.steps-is
          (ap (λ v. v.items) x.answers-is) x.tend-came.ensures.turns
      | in-Native x ↦
          did host m d world s past (Native x.in-Native.values) x.in-Native.is x.came-is x.machine-is x.world-is x.steps-is
          (ap (λ v. v.items) x.answers-is)
          (record { asks = x.call_native-came.ensures.asks (seen world); notes = x.call_native-came.ensures.notes (seen world) (uses_of world) })
      | in-Give+in-Some x ↦
          went host m d world s past (Give x.in-Give.value) x.in-Give.is x.came-is x.machine-is x.world-is x.steps-is
          (ap (λ v. v.items) x.answers-is)
          (gave m (seen world) s x.in-Give.value x.in-Some.level x.pop.new.self x.in-Some.ensures x.give.result x.give.new.machine x.give.ensures.leads)
    ] in
    goes_on host (evaluation c.args.room c.args.form) c.args.world.now c.args.steps.now c.args.answers.now.items m d world s past
    c.loop-doing.invariant c.match-doing.came c.match-doing.machine c.match-doing.world c.match-doing.steps c.match-doing.answers.items t c.in-Ok-came.next c.in-Ok-came.is

-- the same, and that it ends there
pub returns-in-Err-clause-performs : goal.returns-in-Err-clause-performs
returns-in-Err-clause-performs g c =
    let host = g.N.Natives.host c.args.natives.now in
    let m = c.loop-doing.machine in
    let d = c.loop-doing.doing in
    let world = c.loop-doing.world in
    let s = c.loop-doing.steps in
    let past = c.loop-doing.answers.items in
    let t : Did host m d world s past c.match-doing.came c.match-doing.machine c.match-doing.world c.match-doing.steps c.match-doing.answers.items =
    elim c.match-doing.branch [
      | in-Start x ↦ went host m d world s past (Start x.in-Start.begun) x.in-Start.is x.came-is x.machine-is x.world-is x.steps-is
          (ap (λ v. v.items) x.answers-is) x.begin_form-came.ensures.turns
      | in-Collect x ↦
          went host m d world s past (doing.Collect x.in-Collect.action x.in-Collect.forms x.in-Collect.values) x.in-Collect.is x.came-is
          x.machine-is x.world-is x.steps-is (ap (λ v. v.items) x.answers-is) x.collect_values-came.ensures.turns
      | in-Act x ↦
          turned host m d world s past (Act x.in-Act.action x.in-Act.values) x.in-Act.is x.came-is x.machine-is x.world-is x.steps-is
          (ap (λ v. v.items) x.answers-is) x.act-came.ensures.turns
      | in-Invoke x ↦
          turned host m d world s past (Invoke x.in-Invoke.function x.in-Invoke.values) x.in-Invoke.is x.came-is x.machine-is x.world-is
          x.steps-is (ap (λ v. v.items) x.answers-is)
          (turns_by (denote m (Invoke x.in-Invoke.function x.in-Invoke.values)) (seen world) (seen x.invoke-came.new.world) s (uses_of world)
          (uses_of x.invoke-came.new.world) x.invoke-came.result x.invoke-came.new.machine x.invoke-came.ensures.same x.invoke-came.ensures.leads)
      | in-Perform x ↦
          turned host m d world s past (Perform x.in-Perform.method x.in-Perform.arguments) x.in-Perform.is x.came-is x.machine-is x.world-is
          x.steps-is (ap (λ v. v.items) x.answers-is) x.perform-came.ensures.turns
      | in-Turn x ↦
          went host m d world s past (doing.Turn x.in-Turn.repetition x.in-Turn.counter) x.in-Turn.is x.came-is x.machine-is x.world-is
          x.steps-is (ap (λ v. v.items) x.answers-is) x.turn-came.ensures.turns
      | in-Tend x ↦
          turned host m d world s past (Tend x.in-Tend.task) x.in-Tend.is x.came-is x.machine-is x.world-is x.steps-is
          (ap (λ v. v.items) x.answers-is) x.tend-came.ensures.turns
      | in-Native x ↦
          did host m d world s past (Native x.in-Native.values) x.in-Native.is x.came-is x.machine-is x.world-is x.steps-is
          (ap (λ v. v.items) x.answers-is)
          (record { asks = x.call_native-came.ensures.asks (seen world); notes = x.call_native-came.ensures.notes (seen world) (uses_of world) })
      | in-Give+in-Some x ↦
          went host m d world s past (Give x.in-Give.value) x.in-Give.is x.came-is x.machine-is x.world-is x.steps-is
          (ap (λ v. v.items) x.answers-is)
          (gave m (seen world) s x.in-Give.value x.in-Some.level x.pop.new.self x.in-Some.ensures x.give.result x.give.new.machine x.give.ensures.leads)
    ] in
    stops host (evaluation c.args.room c.args.form) c.args.world.now c.args.steps.now c.args.answers.now.items m d world s past
    c.loop-doing.invariant c.match-doing.came c.match-doing.machine c.match-doing.world c.match-doing.steps c.match-doing.answers.items t c.in-Err.stop c.in-Err.is

pub loop-doing-init : goal.loop-doing-init
loop-doing-init g c =
    begun (g.N.Natives.host c.args.natives.now) c.args.form c.args.room c.in-Ok.machine c.args.world.now c.args.steps.now
    c.args.answers.now.items c.in-Ok.ensures

pub returns-in-None : goal.returns-in-None
returns-in-None g c =
    let host = g.N.Natives.host c.args.natives.now in
    let run = evaluation c.args.room c.args.form in
    let past = c.args.answers.now.items in
    let all = c.loop-doing in record {
      performs = finished host run c.args.world.now c.args.steps.now past all.machine all.doing all.world all.steps all.answers.items all.invariant
          c.in-Give.value c.in-Give.is c.in-None.ensures.0 refl;
      taken = finished_after host run c.args.world.now c.args.steps.now past all.machine all.doing all.world all.steps all.answers.items all.invariant
          c.in-Give.value c.in-Give.is c.in-None.ensures.0 refl;
    }
