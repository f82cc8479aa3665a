-- Origins are filed under what they are looked up by.
use Rattle.std.proofs.Common.{◌≡◌, ℕ, true, List, [], ◌∷◌, refl, ap, eq-eqb, eqb-true}
use Rattle.std.specs.Prelude.{◌==◌}
use Rattle.sheet_core.specs.Indexed.{IsFiledUnder, is_index_key}
use Rattle.list_core.specs.declared.origins.Origin.{Origin}
use Rattle.list_core.specs.declared.origins.Source.{Source}
use Rattle.list_core.specs.declared.origins.Source.TheVariants.{Begun, Received, CutOff, Made}
use Rattle.list_core.specs.Origins.{begun_key, cut_key, is_begun_for, is_cut_off, is_received_for, origin_keys}
use Rattle.list_core.specs.Origins.{received_key, source_keys}

-- the first key
foremost : (key : ℕ → ℕ) (n m : ℕ) (rest : List ℕ) → (n == m) ≡ true → is_index_key (key m) (key n ∷ rest) ≡ true
foremost key n m rest e = rw (eq-eqb (key n) (key m) (ap key (eqb-true n m e))) refl

pub begun_filed : (n : ℕ) → IsFiledUnder origin_keys (begun_key n) (λ o. is_begun_for n o.source)
begun_filed n o e = go o.source e
  where
    go : (source : Source) → is_begun_for n source ≡ true → is_index_key (begun_key n) (source_keys source) ≡ true
    go (Begun build) h = foremost begun_key build n [] h
    go (Received line) h = cc
    go (CutOff item) h = cc
    go Made h = cc

pub received_filed : (n : ℕ) → IsFiledUnder origin_keys (received_key n) (λ o. is_received_for n o.source)
received_filed n o e = go o.source e
  where
    go : (source : Source) → is_received_for n source ≡ true → is_index_key (received_key n) (source_keys source) ≡ true
    go (Begun build) h = cc
    go (Received line) h = foremost received_key line n [] h
    go (CutOff item) h = cc
    go Made h = cc

pub cut_filed : (n : ℕ) → IsFiledUnder origin_keys (cut_key n) (λ o. is_cut_off n o.source)
cut_filed n o e = go o.source e
  where
    go : (source : Source) → is_cut_off n source ≡ true → is_index_key (cut_key n) (source_keys source) ≡ true
    go (Begun build) h = cc
    go (Received line) h = cc
    go (CutOff item) h = foremost cut_key item n [] h
    go Made h = cc
