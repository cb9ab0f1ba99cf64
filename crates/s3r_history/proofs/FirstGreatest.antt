-- Of writes, the first whose stamp no other exceeds is what the greatest is, and there is only one.
use Rattle.std.proofs.Common.{◌≡◌, Bool, true, false, cond, List, [], ◌∷◌, ◌++◌}
use Rattle.std.proofs.Common.{Ordering, Less, Equal, Greater, is_lt, Contains}
use Rattle.std.proofs.Common.{refl, sym, ap, subst, ◌∙◌, arith, true≢false}
use Rattle.std.specs.List.{All}
use Rattle.std.specs.Ordering.{ordering_reverse}
use Rattle.std.proofs.lemmas.List.Elements.{All-nil, All-cons, All-weaker, All-contains, Contains-append_right}
use Rattle.s3r_names.specs.Stamp.{is_before}
use Rattle.s3r_names.specs.declared.stamp.Stamp.{Stamp}
use Rattle.s3r_versions.proofs.Orders.{stamp_cmp, stamp_order, less_trans, less_asym, less_irrefl}
use Rattle.s3r_history.specs.Rows.{greatest}
use Rattle.s3r_history.specs.Writes.{IsFirstGreatest}

-- ---- what the fold finds

abbrev NotAfter : {X : Type 0} → Stamp × X → Stamp × X → Type 0
NotAfter w other = is_before w.0 other.0 ≡ false

abbrev IsBefore : {X : Type 0} → Stamp × X → Stamp × X → Type 0
IsBefore w other = is_before other.0 w.0 ≡ true

-- what comes after a stamp comes after all that don't exceed it
after_all : (g x w : Stamp) → is_before g x ≡ false → is_before g w ≡ true → is_before x w ≡ true
after_all g x w most less = go (stamp_cmp x g) refl
  where
    go : (o : Ordering) → stamp_cmp x g ≡ o → is_before x w ≡ true
    go Less e = less_trans stamp_order x g w (sym (stamp_order.same x g) ∙ ap is_lt e) less
    go Equal e = sym (stamp_order.same x w) ∙ ap is_lt (stamp_order.total.congr x g w e) ∙ stamp_order.same g w ∙ less
    go Greater e = absurd (true≢false (sym (sym (stamp_order.same g x) ∙ ap is_lt (stamp_order.total.antisymm g x ∙ ap ordering_reverse e)) ∙ most))

pub first_greatest : {X : Type 0} (first : Stamp × X) (ws : List (Stamp × X)) → IsFirstGreatest (ws ++ first ∷ []) (greatest first ws)
first_greatest first [] = record {
  later = [];
  earlier = [];
  among = refl;
  none_exceeds = All-cons (NotAfter first) first [] (less_irrefl stamp_order first.0) (All-nil (NotAfter first));
  first = All-nil (IsBefore first);
}
first_greatest {X} first (w ∷ ws) = go (is_before (greatest first ws).0 w.0) refl (first_greatest first ws)
  where
    go : (t : Bool) → is_before (greatest first ws).0 w.0 ≡ t → IsFirstGreatest (ws ++ first ∷ []) (greatest first ws)
        → IsFirstGreatest (w ∷ (ws ++ first ∷ [])) (cond t w (greatest first ws))
    go true e old =
        let before : All (IsBefore w) (ws ++ first ∷ []) =
        All-weaker (NotAfter (greatest first ws)) (IsBefore w) (λ other most. after_all (greatest first ws).0 other.0 w.0 most e) (ws ++ first ∷ [])
        old.none_exceeds in
        record {
          later = [];
          earlier = ws ++ first ∷ [];
          among = refl;
          none_exceeds = All-cons (NotAfter w) w (ws ++ first ∷ []) (less_irrefl stamp_order w.0)
              (All-weaker (IsBefore w) (NotAfter w) (λ other less. less_asym stamp_order other.0 w.0 less) (ws ++ first ∷ []) before);
          first = before;
        }
    go false e old = record {
      later = w ∷ old.later;
      earlier = old.earlier;
      among = ap (λ (xs : List (Stamp × X)). w ∷ xs) old.among;
      none_exceeds = All-cons (NotAfter (greatest first ws)) w (ws ++ first ∷ []) e old.none_exceeds;
      first = old.first;
    }

-- ---- it finds the only one

contains : {X : Type 0} (later earlier : List X) (w : X) → Contains (later ++ w ∷ earlier) w
contains later earlier w = Contains-append_right later (w ∷ earlier) w (0, omega arith, refl)

-- of two that no stamp exceeds neither is before the other in the list
at_one_place : {X : Type 0} (v w : Stamp × X) (before_v behind_v before_w behind_w : List (Stamp × X)) → before_v ++ v ∷ behind_v ≡ before_w ++ w ∷ behind_w
    → NotAfter w v → NotAfter v w → All (IsBefore v) behind_v → All (IsBefore w) behind_w → v ≡ w
at_one_place v w [] behind_v [] behind_w same up down all_v all_w = cc
at_one_place v w [] behind_v (x ∷ front_w) behind_w same up down all_v all_w =
    let rest : behind_v ≡ front_w ++ w ∷ behind_w = cc in
    absurd (true≢false (sym (All-contains (IsBefore v) behind_v w all_v (subst (λ xs. Contains xs w) (sym rest) (contains front_w behind_w w))) ∙ up))
at_one_place v w (x ∷ front_v) behind_v [] behind_w same up down all_v all_w =
    let rest : front_v ++ v ∷ behind_v ≡ behind_w = cc in
    absurd (true≢false (sym (All-contains (IsBefore w) behind_w v all_w (subst (λ xs. Contains xs v) rest (contains front_v behind_v v))) ∙ down))
at_one_place v w (x ∷ front_v) behind_v (y ∷ front_w) behind_w same up down all_v all_w =
    let rest : front_v ++ v ∷ behind_v ≡ front_w ++ w ∷ behind_w = cc in
    at_one_place v w front_v behind_v front_w behind_w rest up down all_v all_w

pub one_first : {X : Type 0} (ws : List (Stamp × X)) (v w : Stamp × X) → IsFirstGreatest ws v → IsFirstGreatest ws w → v ≡ w
one_first ws v w is_v is_w =
    let v_there = subst (λ xs. Contains xs v) (sym is_v.among) (contains is_v.later is_v.earlier v) in
    let w_there = subst (λ xs. Contains xs w) (sym is_w.among) (contains is_w.later is_w.earlier w) in
    at_one_place v w is_v.later is_v.earlier is_w.later is_w.earlier (sym is_v.among ∙ is_w.among)
    (All-contains (NotAfter w) ws v is_w.none_exceeds v_there) (All-contains (NotAfter v) ws w is_v.none_exceeds w_there) is_v.first is_w.first
