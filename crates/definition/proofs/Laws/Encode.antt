-- The encoder gives back the bytes of every pack of good form: the pack's parts by kinds, in order.
use Rattle.std.specs.Prelude.{◌≡◌, refl, true, false, List, [], ◌∷◌, ◌++◌, ℕ, zero, suc, ◌<◌, ◌≤◌, eqb, leb, length, get_or, replicate}
use Rattle.std.proofs.Common.{sym, ap, ap₂, ◌∙◌, append_assoc, append-nil, arith, leb-true, eqb-true}
use Rattle.definition.specs.Test.{is, see, tests, and_parts}
use Rattle.definition.specs.Pack.{Pack, empty, with_sort, with_symbol, with_rule, with_node, with_step, with_goal, with_result, with_cut, with_abstract}
use Rattle.definition.specs.Frame.{good, fine, Record}
use Rattle.definition.specs.Parse.{kinds, take_record, parse}
use Rattle.definition.specs.Encode.{put_record_of, put_all, sort_body, symbol_body, rule_body, node_body, step_body, goal_body, result_body, cut_body, abstract_body, encode}
use Rattle.definition.proofs.Laws.Put.{Bytes, records_out}
use Rattle.definition.proofs.Laws.Body.{Took, took-sort, took-symbol, took-rule, took-node, took-step, took-goal, took-result, took-cut, took-abstract}

-- the parts of a pack's bytes, one for each kind
parts : Pack → List (List ℕ)
unfolding put_all symbol_body rule_body node_body step_body goal_body result_body cut_body abstract_body
parts P =
    put_all 1 sort_body P.sorts ∷ put_all 2 symbol_body P.symbols ∷ put_all 3 rule_body P.rules ∷ put_all 4 node_body P.nodes ∷ put_all 5 step_body P.steps
    ∷ put_all 6 goal_body P.goals ∷ put_all 7 result_body P.results ∷ put_all 8 cut_body P.cuts ∷ put_all 9 abstract_body P.abstracts ∷ []

-- there are nine kinds
length-parts : (P : Pack) → length (parts P) ≡ 9
unfolding parts
length-parts P = refl

-- parts one behind the other
joined : List (List ℕ) → List ℕ
joined [] = []
joined (p ∷ ps) = p ++ joined ps

-- the parts with more bytes at the end of one
grown : List (List ℕ) → ℕ → List ℕ → List (List ℕ)
grown [] j b = []
grown (p ∷ ps) zero b = (p ++ b) ∷ ps
grown (p ∷ ps) (suc j) b = p ∷ grown ps j b

-- nothing in the parts from the k-th on
abbrev Ends : ℕ → List (List ℕ) → Type 0
Ends k ps = (i : ℕ) → k ≤ i → get_or ps i [] ≡ []

-- a pack's bytes are its parts
encode-parts : (P : Pack) → encode P ≡ joined (parts P)
unfolding encode parts joined
encode-parts P = sym (rw append-nil)

-- where no part has anything, there is nothing
joined-none : (ps : List (List ℕ)) → Ends 0 ps → joined ps ≡ []
unfolding joined
joined-none [] h = refl
joined-none (p ∷ ps) h = ap (λ (q : List ℕ). q ++ joined ps) (h 0 (omega arith)) ∙ joined-none ps (λ i l. h (suc i) (omega arith))

-- more bytes at the end of the last part that has any stand at the end of all
joined-grown : (ps : List (List ℕ)) (j : ℕ) (b : List ℕ) → j < length ps → Ends (suc j) ps → joined (grown ps j b) ≡ joined ps ++ b
unfolding joined grown
joined-grown [] j b l h = absurd (omega arith)
joined-grown (p ∷ ps) zero b l h =
    let none : joined ps ≡ [] = joined-none ps (λ i k. h (suc i) (omega arith)) in
    rw (none, append-nil (p ++ b), append-nil p)
joined-grown (p ∷ ps) (suc j) b l h =
    ap (λ (q : List ℕ). p ++ q) (joined-grown ps j b (omega arith) (λ i k. h (suc i) (omega arith))) ∙ sym (append_assoc p (joined ps) b)

-- the parts behind the one that has grown are as they were
ends-grown : (ps : List (List ℕ)) (j : ℕ) (b : List ℕ) → Ends (suc j) ps → Ends (suc j) (grown ps j b)
unfolding grown
ends-grown [] j b h i k = h i k
ends-grown (p ∷ ps) zero b h zero k = absurd (omega arith)
ends-grown (p ∷ ps) zero b h (suc i) k = h (suc i) k
ends-grown (p ∷ ps) (suc j) b h zero k = absurd (omega arith)
ends-grown (p ∷ ps) (suc j) b h (suc i) k = ends-grown ps j b (λ n m. h (suc n) (omega arith)) i (omega arith)

-- one thing more of a kind is one record more
all-last : {A : Type 0} (kind : ℕ) (body : A → List ℕ) (xs : List A) (x : A) → put_all kind body (xs ++ (x ∷ [])) ≡ put_all kind body xs ++ put_record_of kind (body x)
unfolding put_all
all-last kind body [] x = append-nil (put_record_of kind (body x))
all-last kind body (y ∷ ys) x =
    ap (λ (r : List ℕ). put_record_of kind (body y) ++ r) (all-last kind body ys x) ∙ sym (append_assoc (put_record_of kind (body y)) (put_all kind body ys) (put_record_of kind (body x)))

-- the parts of Q are those of P with the record at the end of its kind's part
abbrev Added : Pack → Record → Pack → Type 0
Added P r Q = (j : ℕ) × (r.kind ≡ suc j) × (j < 9) × (parts Q ≡ grown (parts P) j (put_record_of r.kind r.body))

-- a thing more of a kind, if it has the bytes of the body, is the record more in its part
added : {A : Type 0} (j : ℕ) (P : Pack) (add : A → Pack) (write : A → List ℕ) (r : Record) (Q : Pack) → r.kind ≡ suc j → j < 9 → Took add write r.body Q
    → ((x : A) → parts (add x) ≡ grown (parts P) j (put_record_of (suc j) (write x))) → Added P r Q
added j P add write r Q kind below took law =
    (j, kind, below, ap parts (sym took.1) ∙ law took.0 ∙ ap₂ (λ (k : ℕ) (b : List ℕ). grown (parts P) j (put_record_of k b)) (sym kind) took.2)

-- a number from j on that is not j is above it
above : (k j : ℕ) → j ≤ k → eqb k j ≡ false → suc j ≤ k
above k j l e = omega tests

-- each record that is taken up is added
record_added : (P : Pack) (r : Record) (Q : Pack) → Bytes r.body → 1 ≤ r.kind → r.kind ≤ 9 → take_record P r ≡ good Q → Added P r Q
unfolding take_record parts grown
record_added P r Q h l1 most e = elim (see (eqb r.kind 1)) [
  | is true p1 ↦
      added 0 P (with_sort P) sort_body r Q (eqb-true _ _ p1) (omega arith) (took-sort P r.body Q h (rw (p1, take_record) at e))
      (λ x. rw (all-last 1 sort_body P.sorts x))
  | is false p1 ↦ let l2 = above r.kind 1 l1 p1 in elim (see (eqb r.kind 2)) [
    | is true p2 ↦
        added 1 P (with_symbol P) symbol_body r Q (eqb-true _ _ p2) (omega arith) (took-symbol P r.body Q h (rw (p1, p2, take_record) at e))
        (λ x. rw (all-last 2 symbol_body P.symbols x))
    | is false p2 ↦ let l3 = above r.kind 2 l2 p2 in elim (see (eqb r.kind 3)) [
      | is true p3 ↦
          added 2 P (with_rule P) rule_body r Q (eqb-true _ _ p3) (omega arith) (took-rule P r.body Q h (rw (p1, p2, p3, take_record) at e))
          (λ x. rw (all-last 3 rule_body P.rules x))
      | is false p3 ↦ let l4 = above r.kind 3 l3 p3 in elim (see (eqb r.kind 4)) [
        | is true p4 ↦
            added 3 P (with_node P) node_body r Q (eqb-true _ _ p4) (omega arith) (took-node P r.body Q h (rw (p1, p2, p3, p4, take_record) at e))
            (λ x. rw (all-last 4 node_body P.nodes x))
        | is false p4 ↦ let l5 = above r.kind 4 l4 p4 in elim (see (eqb r.kind 5)) [
          | is true p5 ↦
              added 4 P (with_step P) step_body r Q (eqb-true _ _ p5) (omega arith) (took-step P r.body Q h (rw (p1, p2, p3, p4, p5, take_record) at e))
              (λ x. rw (all-last 5 step_body P.steps x))
          | is false p5 ↦ let l6 = above r.kind 5 l5 p5 in elim (see (eqb r.kind 6)) [
            | is true p6 ↦
                added 5 P (with_goal P) goal_body r Q (eqb-true _ _ p6) (omega arith) (took-goal P r.body Q h (rw (p1, p2, p3, p4, p5, p6, take_record) at e))
                (λ x. rw (all-last 6 goal_body P.goals x))
            | is false p6 ↦ let l7 = above r.kind 6 l6 p6 in elim (see (eqb r.kind 7)) [
              | is true p7 ↦
                  added 6 P (with_result P) result_body r Q (eqb-true _ _ p7) (omega arith) (took-result P r.body Q h (rw (p1, p2, p3, p4, p5, p6, p7, take_record) at e))
                  (λ x. rw (all-last 7 result_body P.results x))
              | is false p7 ↦ let l8 = above r.kind 7 l7 p7 in elim (see (eqb r.kind 8)) [
                | is true p8 ↦
                    added 7 P (with_cut P) cut_body r Q (eqb-true _ _ p8) (omega arith) (took-cut P r.body Q h (rw (p1, p2, p3, p4, p5, p6, p7, p8, take_record) at e))
                    (λ x. rw (all-last 8 cut_body P.cuts x))
                | is false p8 ↦ let l9 = above r.kind 8 l8 p8 in
                    added 8 P (with_abstract P) abstract_body r Q (omega arith) (omega arith) (took-abstract P r.body Q h (rw (p1, p2, p3, p4, p5, p6, p7, p8, take_record) at e))
                    (λ x. rw (all-last 9 abstract_body P.abstracts x))
              ]
            ]
          ]
        ]
      ]
    ]
  ]
]

-- no part of nothing has anything
parts-empty : (n i : ℕ) → get_or {A = List ℕ} (replicate n []) i [] ≡ []
parts-empty zero i = refl
parts-empty (suc n) zero = refl
parts-empty (suc n) (suc i) = parts-empty n i

-- a record taken up stands behind what was written before, and no higher kind has anything
record_out : (P : Pack) (last : ℕ) (r : Record) (Q : Pack) → Ends last (parts P) → Bytes r.body → kinds.known r.kind ≡ true → kinds.follows last r.kind ≡ true
    → take_record P r ≡ good Q → Ends r.kind (parts Q) × (joined (parts Q) ≡ joined (parts P) ++ put_record_of r.kind r.body)
unfolding kinds
record_out P last r Q ends h known follows e =
    let k = and_parts (leb 1 r.kind) (leb r.kind 9) known in
    let t = record_added P r Q h (leb-true _ _ k.0) (leb-true _ _ k.1) e in
    let j : ℕ = t.0 in
    let kind : r.kind ≡ suc j = t.1 in
    let order : last ≤ r.kind = leb-true _ _ follows in
    let up : Ends (suc j) (parts P) = λ i m. ends i (omega arith) in
    let b : List ℕ = put_record_of r.kind r.body in
    let behind : Ends r.kind (parts Q) = λ i m. ap (λ ps. get_or ps i []) t.3 ∙ ends-grown (parts P) j b up i (omega arith) in
    (behind, ap joined t.3 ∙ joined-grown (parts P) j b (rw (length-parts P) t.2) up)

-- the encoder gives back the bytes of every pack of good form
pub encode_parsed : (s : List ℕ) (P : Pack) → Bytes s → parse s ≡ fine P → encode P ≡ s
unfolding parse parts joined put_all
encode_parsed s P h e =
    encode-parts P ∙ records_out kinds take_record (λ Q. joined (parts Q)) (λ Q last. Ends last (parts Q)) record_out s 0 0 0 empty P (λ i m. parts-empty 9 i) h e
