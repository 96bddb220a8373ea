use Rattle.std.proofs.Common.{◌≡◌, ◌∙◌, ◌++◌, ◌∷◌, [], ◌+◌, ◌-◌, ◌<◌, ◌≤◌, ℕ, List, sym, ap, arith, refl, subst, map, drop, length}
use Rattle.std.specs.Bool.{⊤}
use Rattle.std.proofs.lemmas.List.{map_push, length-map}
use Rattle.std.proofs.lemmas.Result.{err_from_is_err_and}
use Rattle.lisp_data.specs.Datum.{Dat, list_from, nesting_in}
use Rattle.lisp_data.specs.DatumView.{datum_of}
use Rattle.lisp_data.specs.Limits.{most_nesting}
use Rattle.lisp_reader.specs.Answers.{most_open}
use Rattle.lisp_tokens.specs.Gaps.{GapFails}
use Rattle.lisp_tokens.specs.Memory.{Takes, in_prefixed as takes_in_prefixed, a_prefix}
use Rattle.lisp_tokens.specs.Reading.{Items, Fails, TailFails, EndFails, none, tail, prefix_too_deep, in_prefixed, after_prefix, before_tail, no_tail, in_tail, after_tail}
use Rattle.lisp_reader.proofs.OnNesting.{Spells-nesting, Items-nesting, Tail-nesting}
use Rattle.lisp_reader.proofs.OnFaults.{OnRefusal-lift, Refuses-front}
use Rattle.lisp_reader.proofs.OnReading.{Front, Items-push, Spells-list, Spells-dotted, Fails-after_dot, Fails-item, Fails-before_item, Fails-deep_list, Spells-prefixed, Takes-item, Takes-items, Takes-pushed, some-before_dot, dot-at, tail-place}
use Rattle.lisp_reader.proofs.read.+reader.Goals as goal

pub read_datum-returns-in-Nothing : goal.read_datum-returns-in-Nothing
read_datum-returns-in-Nothing t c =
    Refuses-front c.args.bytes.now c.args.room c.args.at c.in-Nothing.fault c.requires.within c.in-Nothing.ensures

-- ---- lists

pub read_list-returns-then-room-eq0 : goal.read_list-returns-then-room-eq0
read_list-returns-then-room-eq0 t c =
    (omega (arith, c.requires.within), Fails-deep_list c.args.bytes.now c.args.room c.args.at c.requires.within c.requires.begins c.if-room-eq0.true)

pub read_list-items-init : goal.read_list-items-init
read_list-items-init t c = record {
  begun = omega arith;
  within = omega (arith, c.requires.within);
  front = record {
    within = c.requires.within;
    begins = c.requires.begins;
    some = omega arith;
    items = rw c.new-items.ensures.items (none (c.args.room - 1) (drop (c.args.at + 1) c.args.bytes.now));
  };
}

pub read_list-returns-in_err-next : goal.read_list-returns-in_err-next
read_list-returns-in_err-next t c =
    let bytes = c.args.bytes.now in
    let room = c.args.room in
    let p = err_from_is_err_and c.from_residual.result c.from_residual.ensures.1 in
    rw (p.1, p.2) (OnRefusal-lift bytes (GapFails (drop c.items.cursor bytes)) (Fails room (drop c.args.at bytes)) ⊥ (Takes room (drop c.args.at bytes)) c.in_err-next.field-0.0 (Fails-before_item bytes room c.args.at c.items.cursor _ c.items.invariant.front) (λ e. absurd e) c.in_err-next.ensures)

pub read_list-returns-then-closes : goal.read_list-returns-then-closes
read_list-returns-then-closes t c =
    let gaps = c.in_ok-next.ensures in
    let inside = c.if-closes.ensures.within refl in
    (omega (arith, gaps.0, c.items.invariant.begun), omega (arith, inside), Spells-list c.args.bytes.now c.args.room c.args.at c.items.cursor c.in_ok-next.next _ _ c.items.invariant.front gaps.2 inside (sym c.if-closes.ensures.value) c.in_ok-list_of.ensures)

pub read_list-read_tail-requires : goal.read_list-read_tail-requires
read_list-read_tail-requires t c =
    let inside = c.if-dot_fits.ensures.within refl in
    (omega arith, (inside, (dot-at c.args.bytes.now c.in_ok-next.next _ inside (sym c.if-dot_fits.ensures.value), omega (arith, c.requires.few))))

pub read_list-returns-in_err-last : goal.read_list-returns-in_err-last
read_list-returns-in_err-last t c =
    let bytes = c.args.bytes.now in
    let room = c.args.room in
    let gaps = c.in_ok-next.ensures in
    let inside = c.if-dot_fits.ensures.within refl in
    let takes = Takes-items bytes room c.args.at c.items.cursor _ c.items.invariant.front (some-before_dot (map datum_of c.items.items.items) (drop c.in_ok-next.next bytes) (sym c.if-dot_fits.ensures.value)) in
    let p = err_from_is_err_and c.from_residual-in_err-last.result c.from_residual-in_err-last.ensures.1 in
    rw (p.1, p.2) (OnRefusal-lift bytes (TailFails (room - 1) (drop (c.in_ok-next.next + 1) bytes)) (Fails room (drop c.args.at bytes)) ⊤ (Takes room (drop c.args.at bytes)) c.in_err-last.field-0.0 (Fails-after_dot bytes room c.args.at c.items.cursor c.in_ok-next.next _ c.items.invariant.front gaps.2 inside (sym c.if-dot_fits.ensures.value)) (λ _. takes) c.in_err-last.ensures)

pub read_list-returns-then-dot_fits : goal.read_list-returns-then-dot_fits
read_list-returns-then-dot_fits t c =
    let gaps = c.in_ok-next.ensures in
    let found = c.in_ok-last.ensures in
    let inside = c.if-dot_fits.ensures.within refl in
    (omega (arith, gaps.0, c.items.invariant.begun, found.0), found.1, Spells-dotted c.args.bytes.now c.args.room c.args.at c.items.cursor c.in_ok-next.next c.in_ok-last.end _ (datum_of c.in_ok-last.last) _ c.items.invariant.front gaps.2 inside (sym c.if-dot_fits.ensures.value) found.2 c.in_ok-ending_in.ensures)

pub read_list-returns-in_err-item : goal.read_list-returns-in_err-item
read_list-returns-in_err-item t c =
    let bytes = c.args.bytes.now in
    let room = c.args.room in
    let gaps = c.in_ok-next.ensures in
    let p = err_from_is_err_and c.from_residual-in_err-item.result c.from_residual-in_err-item.ensures.1 in
    rw (p.1, p.2) (OnRefusal-lift bytes (Fails (room - 1) (drop c.in_ok-next.next bytes)) (Fails room (drop c.args.at bytes)) (Takes (room - 1) (drop c.in_ok-next.next bytes)) (Takes room (drop c.args.at bytes)) c.in_err-item.field-0.0 (Fails-item bytes room c.args.at c.items.cursor c.in_ok-next.next _ c.items.invariant.front gaps.2 (sym c.if-closes.ensures.value) (sym c.if-dot_fits.ensures.value)) (Takes-item bytes room c.args.at c.items.cursor c.in_ok-next.next _ c.items.invariant.front gaps.2) c.in_err-item.ensures)

pub read_list-items-preserved : goal.read_list-items-preserved
read_list-items-preserved t c =
    let gaps = c.in_ok-next.ensures in
    let found = c.in_ok-item.ensures in
    let front = c.items.invariant.front in
    let pushed : map datum_of c.items.items.items ++ datum_of c.in_ok-item.item ∷ [] ≡ map datum_of c.push.new.self.items = sym (ap (map datum_of) c.in_ok-push.ensures.items ∙ map_push datum_of c.items.items.items c.in_ok-item.item) in
    record {
      begun = omega (arith, gaps.0, found.0, c.items.invariant.begun);
      within = found.1;
      front = record {
        within = front.within;
        begins = front.begins;
        some = front.some;
        items = subst (λ (ds : List Dat). Items (c.args.room - 1) (drop (c.args.at + 1) c.args.bytes.now) ds (drop c.in_ok-item.after c.args.bytes.now)) pushed (Items-push (c.args.room - 1) _ _ _ _ (datum_of c.in_ok-item.item) _ front.items gaps.2 found.2);
      };
    }

pub read_list-returns-in_err-list_of : goal.read_list-returns-in_err-list_of
read_list-returns-in_err-list_of t c =
    let ds = map datum_of c.items.items.items in
    let any : 0 < length ds = omega (arith, c.in_err-list_of.ensures, length-map c.items.items.items datum_of) in
    let p = err_from_is_err_and c.from_residual-in_err-list_of.result c.from_residual-in_err-list_of.ensures.1 in
    rw (p.1, p.2) (Takes-items c.args.bytes.now c.args.room c.args.at c.items.cursor ds c.items.invariant.front any)

pub read_list-returns-in_err-ending_in : goal.read_list-returns-in_err-ending_in
read_list-returns-in_err-ending_in t c =
    let ds = map datum_of c.items.items.items in
    let any : 0 < length ds = some-before_dot ds (drop c.in_ok-next.next c.args.bytes.now) (sym c.if-dot_fits.ensures.value) in
    let p = err_from_is_err_and c.from_residual-in_err-ending_in.result c.from_residual-in_err-ending_in.ensures.1 in
    rw (p.1, p.2) (Takes-items c.args.bytes.now c.args.room c.args.at c.items.cursor ds c.items.invariant.front any)

pub read_list-returns-in_err-push : goal.read_list-returns-in_err-push
read_list-returns-in_err-push t c =
    let ds = map datum_of c.items.items.items in
    let p = err_from_is_err_and c.from_residual-in_err-push.result c.from_residual-in_err-push.ensures.1 in
    rw (p.1, p.2) (Takes-pushed c.args.bytes.now c.args.room c.args.at c.items.cursor c.in_ok-next.next c.in_ok-item.after ds (datum_of c.in_ok-item.item) c.items.invariant.front c.in_ok-next.ensures.2 c.in_ok-item.ensures.2)

-- ---- prefixes

pub read_prefixed-returns-then-room-eq0 : goal.read_prefixed-returns-then-room-eq0
read_prefixed-returns-then-room-eq0 t c =
    (omega (arith, c.requires.begins.1), prefix_too_deep c.args.room (drop c.args.at c.args.bytes.now) _ _ c.if-room-eq0.true c.requires.begins.2)

pub read_prefixed-returns-in_err-start : goal.read_prefixed-returns-in_err-start
read_prefixed-returns-in_err-start t c =
    let bytes = c.args.bytes.now in
    let room = c.args.room in
    let some : 0 < room = omega arith in
    let after = c.args.at + c.args.prefix.len in
    let p = err_from_is_err_and c.from_residual.result c.from_residual.ensures.1 in
    rw (p.1, p.2) (OnRefusal-lift bytes (GapFails (drop after bytes)) (Fails room (drop c.args.at bytes)) ⊥ (Takes room (drop c.args.at bytes)) c.in_err-start.field-0.0 (λ kind rest fails. after_prefix room (drop c.args.at bytes) _ (drop after bytes) kind rest some c.requires.begins.2 fails) (λ e. absurd e) c.in_err-start.ensures)

pub read_prefixed-returns-in_err-datum : goal.read_prefixed-returns-in_err-datum
read_prefixed-returns-in_err-datum t c =
    let bytes = c.args.bytes.now in
    let room = c.args.room in
    let some : 0 < room = omega arith in
    let start = c.in_ok-start.start in
    let p = err_from_is_err_and c.from_residual-in_err-datum.result c.from_residual-in_err-datum.ensures.1 in
    rw (p.1, p.2) (OnRefusal-lift bytes (Fails (room - 1) (drop start bytes)) (Fails room (drop c.args.at bytes)) (Takes (room - 1) (drop start bytes)) (Takes room (drop c.args.at bytes)) c.in_err-datum.field-0.0 (λ kind rest fails. in_prefixed room (drop c.args.at bytes) _ _ (drop start bytes) kind rest some c.requires.begins.2 c.in_ok-start.ensures.2 fails) (λ takes. takes_in_prefixed room (drop c.args.at bytes) _ _ (drop start bytes) some c.requires.begins.2 c.in_ok-start.ensures.2 takes) c.in_err-datum.ensures)

pub read_prefixed-returns : goal.read_prefixed-returns
read_prefixed-returns t c =
    let some : 0 < c.args.room = omega arith in
    let gaps = c.in_ok-start.ensures in
    let found = c.in_ok-datum.ensures in
    (omega (arith, gaps.0, found.0), found.1, Spells-prefixed c.args.bytes.now c.args.room c.args.at (c.args.at + c.args.prefix.len) c.in_ok-start.start c.in_ok-datum.after _ (datum_of c.in_ok-datum.datum) _ c.requires.begins.2 some gaps.2 found.2 c.in_ok-prefixed_by.ensures)

pub read_prefixed-returns-in_err-prefixed_by : goal.read_prefixed-returns-in_err-prefixed_by
read_prefixed-returns-in_err-prefixed_by t c =
    let bytes = c.args.bytes.now in
    let room = c.args.room in
    let some : 0 < room = omega arith in
    let p = err_from_is_err_and c.from_residual-in_err-prefixed_by.result c.from_residual-in_err-prefixed_by.ensures.1 in
    rw (p.1, p.2) (a_prefix room (drop c.args.at bytes) _ _ (drop c.in_ok-start.start bytes) (datum_of c.in_ok-datum.datum) (drop c.in_ok-datum.after bytes) some c.requires.begins.2 c.in_ok-start.ensures.2 c.in_ok-datum.ensures.2)

-- ---- after a dot

pub read_tail-returns-in_err-start : goal.read_tail-returns-in_err-start
read_tail-returns-in_err-start t c =
    let bytes = c.args.bytes.now in
    let text = drop (c.args.dot + 1) bytes in
    let p = err_from_is_err_and c.from_residual.result c.from_residual.ensures.1 in
    rw (p.1, p.2) (OnRefusal-lift bytes (GapFails text) (TailFails c.args.room text) ⊥ ⊤ c.in_err-start.field-0.0 (λ kind rest fails. before_tail c.args.room text kind rest fails) (λ _. tt) c.in_err-start.ensures)

pub read_tail-returns-then-closes : goal.read_tail-returns-then-closes
read_tail-returns-then-closes t c =
    let bytes = c.args.bytes.now in
    (omega (arith, c.requires.within), tail-place bytes c.args.room c.args.dot c.requires.within c.requires.begins (no_tail c.args.room (drop (c.args.dot + 1) bytes) _ c.in_ok-start.ensures.2 (sym c.if-closes.ensures.value)))

pub read_tail-returns-in_err-last : goal.read_tail-returns-in_err-last
read_tail-returns-in_err-last t c =
    let bytes = c.args.bytes.now in
    let text = drop (c.args.dot + 1) bytes in
    let start = drop c.in_ok-start.start bytes in
    let p = err_from_is_err_and c.from_residual-in_err-last.result c.from_residual-in_err-last.ensures.1 in
    rw (p.1, p.2) (OnRefusal-lift bytes (Fails c.args.room start) (TailFails c.args.room text) (Takes c.args.room start) ⊤ c.in_err-last.field-0.0 (λ kind rest fails. in_tail c.args.room text start kind rest c.in_ok-start.ensures.2 (sym c.if-closes.ensures.value) fails) (λ _. tt) c.in_err-last.ensures)

pub read_tail-returns-in_err-end : goal.read_tail-returns-in_err-end
read_tail-returns-in_err-end t c =
    let bytes = c.args.bytes.now in
    let text = drop (c.args.dot + 1) bytes in
    let start = drop c.in_ok-start.start bytes in
    let end = drop c.in_ok-last.after bytes in
    let p = err_from_is_err_and c.from_residual-in_err-end.result c.from_residual-in_err-end.ensures.1 in
    rw (p.1, p.2) (OnRefusal-lift bytes (EndFails end) (TailFails c.args.room text) ⊤ ⊤ c.in_err-end.field-0.0 (λ kind rest fails. after_tail c.args.room text start (datum_of c.in_ok-last.last) end kind rest c.in_ok-start.ensures.2 c.in_ok-last.ensures.2 fails) (λ _. tt) c.in_err-end.ensures)

pub read_tail-returns : goal.read_tail-returns
read_tail-returns t c =
    let gaps = c.in_ok-start.ensures in
    let found = c.in_ok-last.ensures in
    let ending = c.in_ok-end.ensures in
    (omega (arith, gaps.0, found.0, ending.0), ending.1, tail c.args.room _ _ _ _ _ gaps.2 found.2 ending.2)

-- ---- what is read nests far less than a list may

items-most : (bytes : List ℕ) (room at cursor : ℕ) (ds : List Dat) → room ≤ most_open → Front bytes room at cursor ds → nesting_in (list_from ds) ≤ most_nesting
items-most bytes room at cursor ds few front =
    let inner = Items-nesting (room - 1) (drop (at + 1) bytes) ds (drop cursor bytes) front.items in
    let some = front.some in
    omega arith

pub read_list-list_of-requires : goal.read_list-list_of-requires
read_list-list_of-requires t c = items-most _ _ _ _ _ c.requires.few c.items.invariant.front

pub read_list-ending_in-requires-clause-front : goal.read_list-ending_in-requires-clause-front
read_list-ending_in-requires-clause-front t c = items-most _ _ _ _ _ c.requires.few c.items.invariant.front

pub read_list-ending_in-requires-clause-tail : goal.read_list-ending_in-requires-clause-tail
read_list-ending_in-requires-clause-tail t c =
    let inner = Tail-nesting _ _ _ _ c.in_ok-last.ensures.2 in
    let few = c.requires.few in
    omega arith

pub read_prefixed-prefixed_by-requires : goal.read_prefixed-prefixed_by-requires
read_prefixed-prefixed_by-requires t c =
    let inner = Spells-nesting _ _ _ _ c.in_ok-datum.ensures.2 in
    let few = c.requires.few in
    omega arith
