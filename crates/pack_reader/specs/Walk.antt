-- From one record to the next.
use Rattle.std.specs.Prelude.{Option, Some, None, Result, Ok, Err}
use Rattle.std.specs.Prelude.{◌≡◌, refl, List, ℕ, ◌+◌, ◌-◌, ◌≤◌, ◌<◌, length, get_or, drop}
use Rattle.std.proofs.Common.{sym, subst, ◌∙◌, arith, length-drop, drop-drop, length-take-le}
use Rattle.std.proofs.Math.Path.{ap}
use Rattle.std.proofs.Math.ListN.{take}
use Rattle.definition.specs.declared.Refusal.TheVariants.{Form, Limit}
use Rattle.definition.specs.Pack.{Pack, Node, node_of}
use Rattle.definition.specs.Frame.{refuse, records}
use Rattle.definition.specs.Parse.{kinds, take_record, parse}
use Rattle.definition.specs.Good.{Good}
use Rattle.definition.proofs.Laws.Frame.{records-one, records_bad, records-over, records-cut}
use Rattle.definition.proofs.Laws.Good.{record_good}
use Rattle.base.specs.Part.{part}
use Rattle.pack_tables.specs.Place.{Place}
use Rattle.pack_tables.specs.Catalog.{records_of}
use Rattle.pack_tables.specs.declared.catalog.Catalog.{Catalog}
use Rattle.pack_tables.specs.Header.{Heads, HeadsFirst, heads_tail}
use Rattle.pack_tables.specs.declared.header.Header.{Header}
use Rattle.pack_read.specs.Reads.{Reads, length-nodes, length_symbols, node_of_law}
use Rattle.pack_reader.specs.Taking.{Reading, behind}
use Rattle.pack_reader.specs.Taking as taking
use Rattle.pack_reader.specs.Sound.{Sound}
use Rattle.pack_reader.specs.Marks.{Marks, Beyond, Advances}
use Rattle.pack_reader.specs.Fault.{refusal_at}
use Rattle.pack_reader.specs.declared.taken.Fault.{Fault}
use Rattle.pack_reader.specs.declared.taken.Fault.TheVariants.{Bad, Over}

-- ahead of the record at `at`, behind one of the kind `last`: the tables are of a good pack, and what is left of the bytes makes of it what the whole makes of none
pub record Walking (bytes work : List ℕ) (c : Catalog) (at last : ℕ) : Type 0 where
  pub reading : Reading bytes work c at
  pub marks : Marks bytes work c
  pub octets : (i : ℕ) → get_or bytes i 0 < 256
  pub inside : at ≤ length bytes
  pub pack : Pack
  pub reads : Reads bytes (records_of work c) pack
  pub fit : Good pack
  pub left : records kinds take_record (drop at bytes) 0 at last pack ≡ parse bytes

-- ahead of the record at `at`, and this is its header
pub record Meeting (bytes work : List ℕ) (c : Catalog) (at : ℕ) (header : Option Header) : Type 0 where
  pub last : ℕ
  pub walking : Walking bytes work c at last
  pub some_left : at < length bytes
  pub heads : HeadsFirst (drop at bytes) last header

-- what taking up the next record answers
abbrev pub Goes : List ℕ → List ℕ → List ℕ → Catalog → ℕ → Result (ℕ × ℕ) Fault → Type 0
Goes bytes work work' c at (Ok (size, kind)) = Walking bytes work' c (at + size) kind × Beyond work work' c × (0 < size)
Goes bytes work work' c at (Err Bad) = parse bytes ≡ refuse (Form at)
Goes bytes work work' c at (Err Over) = parse bytes ≡ refuse (Limit at)

-- which a fault refuses
pub goes_refused : (bytes work work' : List ℕ) (c : Catalog) (at : ℕ) (f : Fault) → Goes bytes work work' c at (Err f) → parse bytes ≡ refuse (refusal_at f at)
goes_refused bytes work work' c at Bad G = G
goes_refused bytes work work' c at Over G = G

-- whatever pack is read, its nodes' heads are symbols
pub walking_sound : (bytes work : List ℕ) (c : Catalog) (at last : ℕ) → Walking bytes work c at last → Sound bytes work c
walking_sound bytes work c at last W = record { pack = W.pack; reads = W.reads; headed = headed; octets = W.octets }
  where
    headed : (P : Pack) → Reads bytes (records_of work c) P → (n : ℕ) → n < length P.nodes → (node_of P n).head < length P.symbols
    headed P R n l =
        let rs : ℕ → List Place = records_of work c in
        let m : n < length (rs 3) = omega (arith, length-nodes bytes rs P R) in
        let e : node_of P n ≡ node_of W.pack n = node_of_law bytes rs P R n m ∙ sym (node_of_law bytes rs W.pack W.reads n m) in
        let h : (node_of W.pack n).head < length W.pack.symbols = (W.fit.nodes n (omega (arith, length-nodes bytes rs W.pack W.reads))).head in
        omega (arith, ap (λ (x : Node). x.head) e, h, length_symbols bytes rs P R, length_symbols bytes rs W.pack W.reads)

module _ (bytes work : List ℕ) (c : Catalog) (at last : ℕ) (W : Walking bytes work c at last) where
  -- no record is there
  pub no_record : at < length bytes → HeadsFirst (drop at bytes) last None → parse bytes ≡ refuse (Form at)
  no_record l H = sym W.left ∙ records-cut kinds take_record (drop at bytes) at last W.pack (omega (arith, length-drop at bytes)) H

  -- a record is there
  module _ (kind size : ℕ) (H₁ : HeadsFirst (drop at bytes) last (Some (record { kind = kind; end = size }))) where
    abbrev end : ℕ
    end = at + size

    H : Heads bytes at last kind end
    H = heads_tail bytes at last kind size W.inside H₁

    abbrev body : List ℕ
    body = take (end - (at + 6)) (drop (at + 6) bytes)

    pub long_body : length body ≡ end - (at + 6)
    long_body = length-take-le (end - (at + 6)) (drop (at + 6) bytes) (omega (arith, length-drop (at + 6) bytes, H.2))

    pub whole : taking.Whole bytes body at
    unfolding part
    whole = record { long = omega (arith, H.3, long_body); inside = omega (arith, H.1, H.2, long_body); body_is = ap (λ (n : ℕ). take n (drop (at + 6) bytes)) (sym long_body) }

    pub behind_is : behind at body ≡ end
    behind_is = omega (arith, long_body, H.1)

    -- it was taken up
    pub went_on : (work' : List ℕ) (r : Result (Unit {0}) Fault) → Advances bytes work work' c (behind at body) (λ P. take_record P (record { kind = kind; body = body })) r
        → (r ≡ (Ok tt) → Goes bytes work work' c at (Ok (size, kind))) × (r ≡ (Err Bad) → Goes bytes work work' c at (Err Bad)) × (r ≡ (Err Over) → Goes bytes work work' c at (Err Over))
    went_on work' r A = (λ e. on (subst (Advances bytes work work' c (behind at body) (λ P. take_record P (record { kind = kind; body = body }))) e A), λ e. against (subst (Advances bytes work work' c (behind at body) (λ P. take_record P (record { kind = kind; body = body }))) e A), λ e. too_much (subst (Advances bytes work work' c (behind at body) (λ P. take_record P (record { kind = kind; body = body }))) e A))
      where
        against : Advances bytes work work' c (behind at body) (λ P. take_record P (record { kind = kind; body = body })) (Err Bad) → parse bytes ≡ refuse (Form at)
        against B = sym W.left ∙ records_bad kinds take_record (drop at bytes) at last W.pack _ H.0 (B W.pack W.reads)

        too_much : Advances bytes work work' c (behind at body) (λ P. take_record P (record { kind = kind; body = body })) (Err Over) → parse bytes ≡ refuse (Limit at)
        too_much B = sym W.left ∙ records-over kinds take_record (drop at bytes) at last W.pack _ H.0 (B W.pack W.reads)

        on : Advances bytes work work' c (behind at body) (λ P. take_record P (record { kind = kind; body = body })) (Ok tt) → Goes bytes work work' c at (Ok (size, kind))
        on B =
            let s = B.says W.pack W.reads in
            let e : at + (6 + length body) ≡ end = omega (arith, behind_is) in
            let f : drop (6 + length body) (drop at bytes) ≡ drop end bytes = drop-drop (6 + length body) at bytes ∙ ap (λ (n : ℕ). drop n bytes) e in
            let g = records-one kinds take_record (drop at bytes) at last W.pack _ s.0 H.0 s.1 in (
              record {
                reading = subst (Reading bytes work' c) behind_is B.reading;
                marks = B.marks;
                octets = W.octets;
                inside = H.2;
                pack = s.0;
                reads = s.2;
                fit = record_good W.pack _ s.0 W.fit s.1;
                left = rw (e, f) at (sym g) ∙ W.left;
              },
              B.beyond,
              omega (arith, H₁.1),
            )

    -- so a fault of the record is one of the next
    pub went_wrong : (work' : List ℕ) (f : Fault) → Advances bytes work work' c (behind at body) (λ P. take_record P (record { kind = kind; body = body })) (Err f) → Goes bytes work work' c at (Err f)
    went_wrong work' Bad A = (went_on work' (Err Bad) A).1 refl
    went_wrong work' Over A = (went_on work' (Err Over) A).2 refl
