-- Stored numbers read back, and what a store leaves of the bytes around it.
-- A store keeps the length; only `store_is` and `drop_stored` ask that the bytes fit.
use Prim.Native.Nat.{ℕ, zero, suc, ◌+◌, ◌/◌, ◌^◌, ◌≤◌, ◌<◌}
use mathlib.Core.Path.{◌≡◌, refl, ap, ◌∙◌}
use mathlib.Core.List.{[], ◌∷◌, ◌++◌, append_assoc}
use native.Mathlib.Nat.{pow-suc, mod-add-div, div-lt_iff_lt-mul, zero-lt-suc, add-suc}
use native.Mathlib.Omega.{arith}
use lib.ListN.{length, take, drop, set}
use lib.Seq.{take_at, drop_at, length-take-le, take-set-le, drop-set-lt, drop-set-add, length-sets, sets-eq}
use Rattle.loc_leaf.specs.Bytes.{Bytes, number, bytes, number_at, store}

-- ---- numbers

pub length_bytes : (n v : ℕ) → length (bytes n v) ≡ n
unfolding bytes
length_bytes zero v = refl
length_bytes (suc n) v = ap suc (length_bytes n (v / 256))

pub number_bytes : (n v : ℕ) → v < 256 ^ n → number (bytes n v) ≡ v
unfolding bytes number
number_bytes zero v h = omega arith
number_bytes (suc n) v h =
    rw (number_bytes n (v / 256) ((div-lt_iff_lt-mul {k = 256} (zero-lt-suc 255)).1 (rw pow-suc at h))) (mod-add-div v 256)

-- the first number, and the one after other bytes
pub at_first : (n v : ℕ) (rest : Bytes) → v < 256 ^ n → number_at n 0 (bytes n v ++ rest) ≡ v
unfolding number_at
at_first n v rest h = rw (take_at (bytes n v) rest n (length_bytes n v)) (number_bytes n v h)

pub at_past : (n at : ℕ) (p q : Bytes) → length p ≡ at → number_at n at (p ++ q) ≡ number_at n 0 q
unfolding number_at
at_past n at p q h = rw (drop_at p q at h) refl

-- ---- stores

pub length_store : (at : ℕ) (bs xs : Bytes) → length (store at bs xs) ≡ length xs
unfolding store
length_store at bs xs = length-sets xs at bs

-- what stands before and after is kept
pub take_store : (n at : ℕ) (bs xs : Bytes) → n ≤ at → take n (store at bs xs) ≡ take n xs
unfolding store
take_store n at [] xs h = refl
take_store n at (b ∷ bs) xs h = take_store n (suc at) bs _ (omega arith) ∙ take-set-le n xs at b h

pub drop_store : (n at : ℕ) (bs xs : Bytes) → at + length bs ≤ n → drop n (store at bs xs) ≡ drop n xs
unfolding store
drop_store n at [] xs h = refl
drop_store n at (b ∷ bs) xs h = drop_store n (suc at) bs _ (omega arith) ∙ drop-set-lt n xs at b (omega arith)

-- a store past n is one in what follows n
pub drop_store_add : (n at : ℕ) (bs xs : Bytes) → drop n (store (n + at) bs xs) ≡ store at bs (drop n xs)
unfolding store
drop_store_add n at [] xs = refl
drop_store_add n at (b ∷ bs) xs =
    rw (add-suc n at) at (drop_store_add n (suc at) bs (set xs (n + at) b)) ∙ ap (λ (l : Bytes). store (suc at) bs l) (drop-set-add n xs at b)

pub store_is : (at : ℕ) (bs xs : Bytes) → at + length bs ≤ length xs → store at bs xs ≡ take at xs ++ (bs ++ drop (at + length bs) xs)
unfolding store
store_is at bs xs h = sets-eq bs xs at h ∙ append_assoc (take at xs) bs (drop (at + length bs) xs)

-- what stands there
pub drop_stored : (at : ℕ) (bs xs : Bytes) → at + length bs ≤ length xs → drop at (store at bs xs) ≡ bs ++ drop (at + length bs) xs
drop_stored at bs xs h = rw (store_is at bs xs h) (drop_at (take at xs) (bs ++ drop (at + length bs) xs) at (length-take-le at xs (omega arith)))
