-- One store of several, replaced.
use Rattle.std.proofs.Common.{ℕ, ◌<◌, List, length, slice_set, subst}
use Rattle.std.specs.Prelude.{slice_get}
use Rattle.s3r_store.specs.declared.store.Store.{Store}
use Rattle.s3r_desk.specs.Happened.{StoreHas, AreLeftBut}
use Rattle.s3r_desk.proofs.Places.{get_set_same, get_set_other, one_of}

pub store_set : (P : Store → Type 0) (stores : List Store) (r : ℕ) (s : Store) → r < length stores → P s → StoreHas P (slice_set stores r s) r
store_set P stores r s lt has x get = subst P (one_of (slice_get (slice_set stores r s) r) s x (get_set_same stores r s lt) get) has

pub left_set : (stores : List Store) (r : ℕ) (s : Store) → AreLeftBut r stores (slice_set stores r s)
left_set stores r s q ne = get_set_other stores r q s ne
