use Rattle.std.proofs.Common.{◌≡◌, ℕ, List, ◌∷◌, [], ◌+◌, length, Some, None, refl, sym, ◌∙◌, ap, subst, ⊎_elim, arith}
use Rattle.std.proofs.lemmas.List.{length-append}
use Rattle.std.specs.Prelude.{slice_get}
use Rattle.s3r_store.specs.declared.store.Store.{Store}
use Rattle.s3r_desk.proofs.Places.{get_pushed}
use Rattle.s3r_desk.proofs.desk.Desk.new.Goals as goal

pub loop-v-init : goal.loop-v-init
loop-v-init c = rw c.new-stores.ensures.items (record { count = refl; each = λ r s get. absurd cc })

pub loop-v-preserved : goal.loop-v-preserved
loop-v-preserved c =
    subst (λ (l : List Store). record {
      count : length l ≡ c.loop-v.v + 1;
      each : (r : ℕ) (s : Store) → slice_get l r ≡ Some s → (s.v ≡ r)
          × (s.regions ≡ c.args.regions) × (s.held ≡ None);
    }) (sym c.in_ok-push.ensures.items)
    (record {
      count = length-append c.loop-v.stores.items (c.new.result ∷ []) ∙ ap (λ (n : ℕ). n + 1) c.loop-v.invariant.count;
      each = λ r s get. ⊎_elim
          (λ at. c.loop-v.invariant.each r s at)
          (λ (is, same). subst (λ (x : Store). (x.v ≡ r) × (x.regions ≡ c.args.regions)
          × (x.held ≡ None)) same (c.new.ensures.v ∙ sym (is ∙ c.loop-v.invariant.count), c.new.ensures.regions, c.new.ensures.unread))
          (get_pushed c.loop-v.stores.items c.new.result r s get);
    })

pub returns-clause-count : goal.returns-clause-count
returns-clause-count c = omega (arith, c.loop-v.invariant.count, c.loop-v-test.false, c.loop-v.auto.v-end)

pub returns-clause-numbered : goal.returns-clause-numbered
returns-clause-numbered c = record {
  v = λ r s get. (c.loop-v.invariant.each r s get).0;
  regions = λ r s get. (c.loop-v.invariant.each r s get).1 ∙ omega (arith, c.loop-v.invariant.count, c.loop-v-test.false, c.loop-v.auto.v-end);
}

pub returns-clause-fresh : goal.returns-clause-fresh
returns-clause-fresh c = λ r s get. (c.loop-v.invariant.each r s get).2
