-- `written` is `show` with a budget that suffices.
use Rattle.std.specs.Prelude.{◌≡◌, refl, List, ℕ, suc, ◌+◌, ◌-◌, ◌≤◌}
use Rattle.std.proofs.Common.{ap, arith}
use Rattle.definition.specs.Pack.{Term, Terms, var, app, nil, cons, Pack}
use Rattle.definition.specs.Shown.{Text, show, show_all}
use Rattle.emission.specs.Written.{written, written_all}

-- a term's nodes, each as often as it stands there
unfoldable mutual
  pub places : Term → ℕ
  places (var k) = 1
  places (app h ts) = suc (places_all ts)

  pub places_all : Terms → ℕ
  places_all nil = 0
  places_all (cons t ts) = places t + places_all ts

module _ (P : Pack) (name : ℕ → List ℕ) where
  mutual
    unfolding written written_all places places_all show show_all

    spent : (t : Term) (left budget : ℕ) → budget ≡ places t + left → show P name t budget ≡ (record { bytes = written P name t; left = left })
    spent (var k) left budget e = let z : budget ≡ suc left = omega arith in rw z refl
    spent (app h ts) left budget e = let z : budget ≡ suc (places_all ts + left) = omega arith in rw (z, spent_all ts left (places_all ts + left) refl)

    spent_all : (ts : Terms) (left budget : ℕ) → budget ≡ places_all ts + left → show_all P name ts budget ≡ (record { bytes = written_all P name ts; left = left })
    spent_all nil left budget e = let z : budget ≡ left = omega arith in rw z refl
    spent_all (cons t ts) left budget e = rw (spent t (places_all ts + left) budget (omega arith), spent_all ts left (places_all ts + left) refl)

  pub shown_in_full : (t : Term) (budget : ℕ) → places t ≤ budget → (show P name t budget).bytes ≡ written P name t
  shown_in_full t budget h = ap (λ (x : Text). x.bytes) (spent t (budget - places t) budget (omega arith))
