-- What taking up a ground node answers.
use Rattle.std.specs.Prelude.{Ok, Err}
use Rattle.std.specs.Prelude.{◌≡◌, refl, Bool, true, false, not, List, ◌++◌, ℕ, suc, ◌+◌, ◌*◌, ◌-◌, ◌/◌, ◌≤◌, ◌<◌, length, get_or, drop}
use Rattle.std.proofs.Common.{sym, ap, ◌∙◌, subst, arith}
use Rattle.definition.specs.Test.{any}
use Rattle.definition.specs.Little.{le}
use Rattle.definition.specs.Encode.{put, put_words}
use Rattle.definition.specs.Pack.{Node, Pack, no_node, symbol_of, sort_of, node_of, with_node}
use Rattle.definition.specs.Frame.{good}
use Rattle.definition.specs.Theory.{words}
use Rattle.definition.specs.Certificate.{is_arguments, same_node, take_node}
use Rattle.definition.proofs.Laws.Put.{Bytes, put-le, put-words-end, length-words}
use Rattle.definition.proofs.Laws.Decide.{arguments_turn, arguments_outside, arguments_unsorted, arguments_done, nodes-any, nodes-none}
use Rattle.definition.proofs.Laws.DecideCertificate.{node_short, node-head, node-length, node_arguments, node_again, node-taken}
use Rattle.pack_tables.specs.Place.{Place, no_place, key_at, body_at}
use Rattle.pack_tables.specs.Catalog.{records_of, Cataloged, EnteringIn, EntersIn, FindsIn}
use Rattle.pack_tables.specs.declared.region.Entered.TheVariants.{New, Old}
use Rattle.pack_tables.specs.declared.catalog.Catalog.{Catalog}
use Rattle.pack_read.specs.Body.{body_of, node_in}
use Rattle.pack_read.specs.Laws.{word-from, record_inside}
use Rattle.pack_read.specs.Reads.{Reads, NodeForm, length_symbols, length-nodes, listed_at, read_node}
use Rattle.pack_read.specs.Says.{OfPack, arity_read}
use Rattle.pack_tables.specs.Name.{denied, not_denied}
use Rattle.pack_reader.specs.Taking.{Reading, Whole, behind, Takes, body-at, key-at, may_enter, entered_takes, refused-takes}
use Rattle.pack_reader.specs.Sound.{Sound, body_bytes}
use Rattle.pack_reader.specs.declared.taken.Fault.TheVariants.{Bad}

-- ---- the arguments one by one
pub record Asks (bytes work body : List ℕ) (c : Catalog) (head arity : ℕ) : Type 0 where
  pub cataloged : Cataloged bytes work c
  pub sound : Sound bytes work c
  pub symbol : head < length (records_of work c 1)
  pub many : OfPack bytes work c (λ P. length (symbol_of P head).inputs) arity
  pub room : 4 + 4 * arity ≤ length body

-- whether they are of the sorts that the head asks for
abbrev pub Fit : List ℕ → List ℕ → List ℕ → Catalog → ℕ → ℕ → Bool → Type 0
Fit bytes work body c head arity r = (P : Pack) → Reads bytes (records_of work c) P → r ≡ is_arguments P (symbol_of P head).inputs (words arity (drop 4 body))

-- those from the i-th on decide it
abbrev pub Left : List ℕ → List ℕ → List ℕ → Catalog → ℕ → ℕ → ℕ → Type 0
Left bytes work body c head arity i =
    (P : Pack) → Reads bytes (records_of work c) P → is_arguments P (drop i (symbol_of P head).inputs) (drop i (words arity (drop 4 body))) ≡ is_arguments P (symbol_of P head).inputs (words arity (drop 4 body))

module _ (bytes work body : List ℕ) (c : Catalog) (head arity : ℕ) (A : Asks bytes work body c head arity) where
  abbrev args : List ℕ
  args = words arity (drop 4 body)

  long_args : length args ≡ arity
  long_args = length-words arity (drop 4 body)

  pub fit_start : Left bytes work body c head arity 0
  fit_start P r = refl

  -- an argument that is a node has a head that is a symbol
  pub argument_headed : (n : ℕ) → n < length (records_of work c 3) → (node_of A.sound.pack n).head < length A.sound.pack.symbols
  argument_headed n h = A.sound.headed A.sound.pack A.sound.reads n (omega (arith, length-nodes bytes (records_of work c) A.sound.pack A.sound.reads))

  pub input_there : (i : ℕ) → i < arity → i < length (symbol_of A.sound.pack head).inputs
  input_there i h = omega (arith, A.many A.sound.pack A.sound.reads)

  module _ (i n : ℕ) (h : i < arity) (e : n ≡ le 4 body (4 + 4 * i)) (L : Left bytes work body c head arity i) where
    arg_is : get_or args i 0 ≡ n
    arg_is = word-from 4 arity i body h ∙ sym e

    pub fit_outside : length (records_of work c 3) ≤ n → Fit bytes work body c head arity false
    fit_outside l P r =
        sym (sym (L P r) ∙ arguments_outside P (symbol_of P head).inputs args i (omega (arith, A.many P r)) (omega (arith, long_args)) (omega (arith, arg_is, length-nodes bytes (records_of work c) P r)))

    module _ (s t : ℕ) (sort : OfPack bytes work c (λ P. sort_of P n) s) (input : OfPack bytes work c (λ P. get_or (symbol_of P head).inputs i 0) t) where
      pub fit_unsorted : (s ≡ t → ⊥) → Fit bytes work body c head arity false
      fit_unsorted d P r =
          sym (sym (L P r) ∙ arguments_unsorted P (symbol_of P head).inputs args i (omega (arith, A.many P r)) (omega (arith, long_args)) (λ q. d (sort P r ∙ ap (sort_of P) (sym arg_is) ∙ q ∙ sym (input P r))))

      pub fit_turn : n < length (records_of work c 3) → s ≡ t → Left bytes work body c head arity (i + 1)
      fit_turn l q P r =
          let f : suc i ≡ i + 1 = omega arith in
          let turn = arguments_turn P (symbol_of P head).inputs args i (omega (arith, A.many P r)) (omega (arith, long_args)) (omega (arith, arg_is, length-nodes bytes (records_of work c) P r)) (ap (sort_of P) arg_is ∙ sym (sort P r) ∙ q ∙ input P r) in
          ap (λ (k : ℕ). is_arguments P (drop k (symbol_of P head).inputs) (drop k args)) (sym f) ∙ sym turn ∙ L P r

  pub fit_end : (i : ℕ) → arity ≤ i → Left bytes work body c head arity i → Fit bytes work body c head arity true
  fit_end i h L P r = sym (sym (L P r) ∙ arguments_done P (symbol_of P head).inputs args i (sym (A.many P r) ∙ sym long_args) (omega (arith, long_args)))

-- ---- two nodes are the same just when their bodies are
out : Node → List ℕ
out n = put 4 n.head ++ put_words n.args

abbrev Rowed : List ℕ → Type 0
Rowed b = length b ≡ 4 + 4 * ((length b - 4) / 4)

node_out : (b : List ℕ) → Bytes b → Rowed b → out (node_in b) ≡ b
unfolding node_in out
node_out b B e = ap (λ (ws : List ℕ). put 4 (le 4 b 0) ++ ws) (put-words-end 4 ((length b - 4) / 4) b B e) ∙ put-le 4 b 0 B (omega arith)

same_bodies : (b b' : List ℕ) → Bytes b → Bytes b' → Rowed b → Rowed b' → node_in b ≡ node_in b' → b ≡ b'
same_bodies b b' B B' e e' q = sym (node_out b B e) ∙ ap out q ∙ node_out b' B' e'

-- the node that a body gives, by the arity of its head
abbrev node_by : Pack → List ℕ → Node
node_by P b = record { head = le 4 b 0; args = words (length (symbol_of P (le 4 b 0)).inputs) (drop 4 b) }

node_by_law : (P : Pack) (b : List ℕ) → length b ≡ 4 + 4 * length (symbol_of P (le 4 b 0)).inputs → node_in b ≡ node_by P b
unfolding node_in
node_by_law P b h =
    let e : (length b - 4) / 4 ≡ length (symbol_of P (le 4 b 0)).inputs = omega arith in
    ap (λ (k : ℕ). record { head = le 4 b 0; args = words k (drop 4 b) }) e

-- ---- the record
module _ (bytes work body : List ℕ) (c : Catalog) (at : ℕ) (R : Reading bytes work c at) (W : Whole bytes body at) (S : Sound bytes work c) where
  abbrev place : Place
  place = record { at = at; from = at + 6 }

  abbrev rs : ℕ → List Place
  rs = records_of work c

  key_is : key_at bytes place ≡ body
  key_is = let e : at + 6 ≡ at + 6 + 0 = omega arith in ap (λ (f : ℕ). key_at bytes (record { at = at; from = f })) e ∙ key-at bytes body at 0 W (omega arith)

  body_is : body_at bytes place ≡ body
  body_is = body-at bytes body at (at + 6) W

  pub bad_short : length body < 4 → Takes bytes work work c 3 (behind at body) (λ P. take_node P body) (Err Bad)
  bad_short h P r = node_short P body h

  module _ (long : 4 ≤ length body) (head : ℕ) (head_is : head ≡ le 4 body 0) where
    pub bad_head : length (rs 1) ≤ head → Takes bytes work work c 3 (behind at body) (λ P. take_node P body) (Err Bad)
    bad_head h P r = node-head P body long (omega (arith, length_symbols bytes rs P r))

    module _ (symbol : head < length (rs 1)) (arity : ℕ) (many : OfPack bytes work c (λ P. length (symbol_of P head).inputs) arity) where
      headed : (P : Pack) → Reads bytes rs P → le 4 body 0 < length P.symbols
      headed P r = omega (arith, length_symbols bytes rs P r)

      inputs_are : (P : Pack) → Reads bytes rs P → length (symbol_of P (le 4 body 0)).inputs ≡ arity
      inputs_are P r = ap (λ (h : ℕ). length (symbol_of P h).inputs) (sym head_is) ∙ sym (many P r)

      -- its inputs are in the pack
      pub few_inputs : 4 + 4 * arity < 4294967296
      few_inputs =
          omega (arith, R.short, many S.pack S.reads, arity_read bytes rs S.pack S.reads head symbol, (S.reads.symbols.form head symbol).0, record_inside bytes work c 1 head R.cataloged (omega arith) symbol)

      pub bad_length : (length body ≡ 4 + 4 * arity → ⊥) → Takes bytes work work c 3 (behind at body) (λ P. take_node P body) (Err Bad)
      bad_length d P r = node-length P body long (headed P r) (λ e. d (e ∙ ap (λ (k : ℕ). 4 + 4 * k) (inputs_are P r)))

      module _ (whole : length body ≡ 4 + 4 * arity) where
        whole-at : (P : Pack) → Reads bytes rs P → length body ≡ 4 + 4 * length (symbol_of P (le 4 body 0)).inputs
        whole-at P r = whole ∙ ap (λ (k : ℕ). 4 + 4 * k) (sym (inputs_are P r))

        pub asks : Asks bytes work body c head arity
        asks = record { cataloged = R.cataloged; sound = S; symbol = symbol; many = many; room = omega (arith, whole) }

        fit_at : (t : Bool) → Fit bytes work body c head arity t → (P : Pack) → Reads bytes rs P → is_arguments P (symbol_of P (le 4 body 0)).inputs (words (length (symbol_of P (le 4 body 0)).inputs) (drop 4 body)) ≡ t
        fit_at t F P r =
            ap (λ (k : ℕ). is_arguments P (symbol_of P (le 4 body 0)).inputs (words k (drop 4 body))) (inputs_are P r)
            ∙ ap (λ (h : ℕ). is_arguments P (symbol_of P h).inputs (words arity (drop 4 body))) (sym head_is)
            ∙ sym (F P r)

        -- the answer, which code negates
        pub bad_arguments : (t : Bool) → Fit bytes work body c head arity t → not t ≡ true → Takes bytes work work c 3 (behind at body) (λ P. take_node P body) (Err Bad)
        bad_arguments t F n P r = node_arguments P body long (headed P r) (whole-at P r) (denied t _ (sym (fit_at t F P r)) n)

        module _ (t : Bool) (F : Fit bytes work body c head arity t) (n : not t ≡ false) where
          fit : (P : Pack) → Reads bytes rs P → is_arguments P (symbol_of P (le 4 body 0)).inputs (words (length (symbol_of P (le 4 body 0)).inputs) (drop 4 body)) ≡ true
          fit P r = not_denied t _ (sym (fit_at t F P r)) n

          pub enter_node : EnteringIn bytes work c 3 place
          enter_node = let e : at + 6 + 0 ≡ at + 6 = omega arith in subst (λ (f : ℕ). EnteringIn bytes work c 3 (record { at = at; from = f })) e (may_enter bytes work body c at 3 0 R W (omega (arith, long)) (omega arith) (omega arith) (λ h. absurd (omega arith)))

          rowed : Rowed body
          rowed = omega (arith, whole)

          form : NodeForm bytes place
          form = subst (λ (b : List ℕ). (4 ≤ length b) × (key_at bytes place ≡ b) × Rowed b) (sym body_is) (long, key_is, rowed)

          node_is : (P : Pack) → Reads bytes rs P → node_in (body_at bytes place) ≡ node_by P body
          node_is P r = ap node_in body_is ∙ node_by_law P body (whole-at P r)

          node_at : (P : Pack) → Reads bytes rs P → (i : ℕ) → i < length (rs 3) → get_or P.nodes i no_node ≡ node_in (body_of bytes (rs 3) i)
          node_at P r i h = listed_at _ _ P.nodes (rs 3) no_node i r.nodes h

          -- there just when its key is
          node_there : (P : Pack) → Reads bytes rs P → FindsIn bytes (rs 3) (key_at bytes place) → any (same_node (node_by P body)) P.nodes ≡ true
          node_there P r f =
              let b : body_of bytes (rs 3) f.0 ≡ body_at bytes place = sym (r.nodes.form f.0 f.1).1 ∙ f.2 ∙ form.1 in
              nodes-any (node_by P body) P.nodes f.0 (omega (arith, f.1, length-nodes bytes rs P r)) (node_at P r f.0 f.1 ∙ ap node_in b ∙ node_is P r)

          node-not_there : (P : Pack) → Reads bytes rs P → (FindsIn bytes (rs 3) (key_at bytes place) → ⊥) → any (same_node (node_by P body)) P.nodes ≡ false
          node-not_there P r none = nodes-none (node_by P body) P.nodes (λ i h e. let l : i < length (rs 3) = omega (arith, length-nodes bytes rs P r) in none (i, l, found i l e))
            where
              found : (i : ℕ) → i < length (rs 3) → get_or P.nodes i no_node ≡ node_by P body → key_at bytes (get_or (rs 3) i no_place) ≡ key_at bytes place
              found i l e =
                  let F = r.nodes.form i l in
                  F.1
                  ∙ same_bodies (body_of bytes (rs 3) i) (body_at bytes place) (body_bytes bytes _ S.octets) (body_bytes bytes place S.octets) F.2 form.2 (sym (node_at P r i l) ∙ e ∙ sym (node_is P r))
                  ∙ sym form.1

          pub new-node : (work' : List ℕ) → EntersIn bytes work work' c 3 place New → Takes bytes work work' c 3 (behind at body) (λ P. take_node P body) (Ok tt)
          new-node work' =
              entered_takes bytes work work' c at (behind at body) 3 place (λ P. take_node P body) (λ P. with_node P (node_in (body_at bytes place))) R (omega (arith, long))
              (λ P r none. node-taken P body long (headed P r) (whole-at P r) (fit P r) (node-not_there P r none) ∙ ap (λ (x : Node). good (with_node P x)) (sym (node_is P r)))
              (λ P r M. read_node bytes rs (records_of work' c) P r place M form)

          pub old-node : (work' : List ℕ) → EntersIn bytes work work' c 3 place Old → Takes bytes work work' c 3 (behind at body) (λ P. take_node P body) (Err Bad)
          old-node work' =
              refused-takes bytes work work' c (behind at body) 3 place (λ P. take_node P body)
              (λ P r f. node_again P body long (headed P r) (whole-at P r) (fit P r) (node_there P r f))
