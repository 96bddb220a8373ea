use Rattle.std.proofs.Common.{◌≡◌, true, length, ap, subst, ◌∙◌}
use Rattle.std.specs.Prelude.{option_map, slice_get}
use Rattle.clos_method.specs.MethodIds.{method_numbers}
use Rattle.clos_generic.specs.Accessors.{is_accessor_in}
use Rattle.clos_generic.specs.inner.AccessorMethods.{IsAccessor}
use Rattle.clos_generic.proofs.Kept.{all_found, all_to_find, fewer_left, found_is_accessor, one_more_found}
use Rattle.clos_generic.proofs.table.Generics.accessors_there.Goals as goal

pub loop-left-init : goal.loop-left-init
loop-left-init c =
    let t = c.args.self.now.table in record {
      found = all_to_find t c.args.class.0 (option_map (λ m. m.0) c.latest_accessor-left.result) (method_numbers c.new-there.result.items) c.latest_accessor-left.ensures (ap method_numbers c.new-there.ensures.items);
      accessor = found_is_accessor t.methods c.args.class.0 (length t.methods) (option_map (λ m. m.0) c.latest_accessor-left.result) c.latest_accessor-left.ensures;
    }

pub loop-left-preserved : goal.loop-left-preserved
loop-left-preserved c =
    let t = c.args.self.now.table in
    let is : is_accessor_in c.args.class.0 (slice_get t.methods c.in-Some.id.0) ≡ true =
    subst (λ o. IsAccessor t.methods c.args.class.0 (option_map (λ m. m.0) o)) c.in-Some.is c.loop-left.invariant.accessor in record {
      found = one_more_found t c.args.class.0 c.in-Some.id c.loop-left.left c.accessor_before-left.result (method_numbers c.loop-left.there.items) (method_numbers c.put_if_there.new.there.items)
          c.in-Some.is c.loop-left.invariant.found (c.accessor_before-left.ensures c.args.class.0 is) c.in_ok-put_if_there.ensures;
      accessor = found_is_accessor t.methods c.args.class.0 c.in-Some.id.0 (option_map (λ m. m.0) c.accessor_before-left.result) (c.accessor_before-left.ensures c.args.class.0 is);
    }

pub loop-left-smaller : goal.loop-left-smaller
loop-left-smaller c =
    let t = c.args.self.now.table in
    let is : is_accessor_in c.args.class.0 (slice_get t.methods c.in-Some.id.0) ≡ true =
    subst (λ o. IsAccessor t.methods c.args.class.0 (option_map (λ m. m.0) o)) c.in-Some.is c.loop-left.invariant.accessor in
    fewer_left t.methods c.args.class.0 c.in-Some.id c.loop-left.left c.accessor_before-left.result c.in-Some.is (c.accessor_before-left.ensures c.args.class.0 is)

pub returns : goal.returns
returns c = ap method_numbers c.from.ensures.0 ∙ all_found c.args.self.now.table c.args.class.0 c.loop-left.left (method_numbers c.loop-left.there.items) c.in_default.is c.loop-left.invariant.found
