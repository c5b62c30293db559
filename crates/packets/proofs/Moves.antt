-- Packets that go from list to list.
use Rattle.std.proofs.Common.{◌≡◌, ℕ, zero, suc, ◌+◌, ◌-◌, ◌<◌, ◌≤◌, true, false, not, Bool, ◌&&◌, ◌||◌, eqb, leb, ◌≢◌, List, [], ◌∷◌, ◌++◌, map, length, get_or, set, sym, refl, ap, ◌∙◌, subst, ap₂, ⊎_elim, arith}
use Rattle.std.specs.Prelude.{Result, Ok, Err, Some, None}
use Rattle.std.specs.List.{slice_get, list_any}
use Rattle.std.specs.Result.{result_ok}
use mathlib.Core.List.{map-map}
use lib.ListN
use lib.ListN.{length-map}
use Rattle.std.proofs.lemmas.List.{map-set, get_or-map, get_or-set_same, get_or-set_other, get_or_past}
use Rattle.std.proofs.lemmas.Bool.{cases_eq, cases_lt, both_ways, cond-true, and_from, le-leb, eq-eqb, ne_eqb}
use Rattle.chain.specs.Times.{times}
use Rattle.chain.specs.Chain.{chain, Row, Becomes, Kept, first, tail}
use Rattle.chain.specs.Lists.{list as list_of, lists, AllEnd, Stand}
use Rattle.chain.proofs.Times.{hit_same, hit_other, times-append}
use Rattle.chain.proofs.Paths.{first_row as chain_first, chain_room}
use Rattle.chain.proofs.RowLinks.{map_kept}
use Rattle.chain.proofs.Lists.{lists_at, changed_ends, changed_lists, changed_stand, list_empty, list_first, first_is as chain_head}
use Rattle.packets.specs.declared.rows.Place.{Place}
use Rattle.packets.specs.declared.rows.Place.TheVariants.{Free, Hands, Queue}
use Rattle.packets.specs.declared.rows.Packet.{Packet}
use Rattle.chain.specs.declared.rows.Linked.{Linked}
use Rattle.packets.specs.Places.{stands, place_at, handed, blank}
use Rattle.packets.specs.declared.table.PacketTable.{PacketTable}
use Rattle.numbers.specs.Numbered.{Numbers}
use Rattle.packets.specs.View.{View, view, packet, list, filled, took_first, put_last}

-- ---- places

handed_nowhere : (p : Place) (i : ℕ) → handed p ≡ true → stands p i ≡ 0
handed_nowhere Free i e = absurd (both_ways false refl e)
handed_nowhere (Hands k) i e = refl
handed_nowhere (Queue k) i e = absurd (both_ways false refl e)

-- no packet stands on two lists
one_list : (p : Place) (i j : ℕ) → i ≢ j → stands p i + stands p j ≤ 1
one_list Free zero zero ne = absurd (ne refl)
one_list Free zero (suc j) ne = omega arith
one_list Free (suc i) zero ne = omega arith
one_list Free (suc i) (suc j) ne = omega arith
one_list (Hands k) i j ne = omega arith
one_list (Queue k) zero zero ne = absurd (ne refl)
one_list (Queue k) zero (suc j) ne = ⊎_elim (λ e. let h = hit_same k (suc j) e in omega arith) (λ n. let h = hit_other k (suc j) n in omega arith) (cases_eq k (suc j))
one_list (Queue k) (suc i) zero ne = ⊎_elim (λ e. let h = hit_same k (suc i) e in omega arith) (λ n. let h = hit_other k (suc i) n in omega arith) (cases_eq k (suc i))
one_list (Queue k) (suc i) (suc j) ne =
    ⊎_elim (λ e. let h = hit_same k (suc i) e in let g = hit_other k (suc j) (λ q. ne (sym e ∙ q)) in omega arith)
    (λ n. let h = hit_other k (suc i) n in ⊎_elim (λ e. let g = hit_same k (suc j) e in omega arith) (λ m. let g = hit_other k (suc j) m in omega arith) (cases_eq k (suc j)))
    (cases_eq k (suc i))

place_same : (ps : List Place) (n : ℕ) (p : Place) → Row (length ps) n → place_at (set ps (n - 1) p) n ≡ p
place_same ps zero p r = absurd (omega (arith, r.0))
place_same ps (suc k) p r = let e : suc k - 1 ≡ k = omega arith in rw e (get_or-set_same ps k p (Place.Hands 0) (omega (arith, r.1)))

place_other : (ps : List Place) (n : ℕ) (p : Place) (k : ℕ) → 0 < n → k ≢ n → place_at (set ps (n - 1) p) k ≡ place_at ps k
place_other ps n p zero h ne = refl
place_other ps n p (suc k) h ne = get_or-set_other ps (n - 1) k p (Place.Hands 0) (omega arith)

-- ---- rows

abbrev pub link : Linked Packet → ℕ
link r = r.next

abbrev pub relinked : Linked Packet → ℕ → Linked Packet
relinked r n = record { item = r.item; next = n }

abbrev pub held : Linked Packet → Packet
held r = r.item

abbrev place_in : Linked Packet → Place
place_in r = r.item.place

abbrev pub blank_row : Linked Packet
blank_row = record { item = blank Place.Free; next = 0 }

abbrev pub shape : List (Linked Packet) → List ℕ → View
shape rows heads = record { packets = map held rows; lists = lists heads (map link rows) }

-- list i of a table, through its rows
abbrev chained : PacketTable → ℕ → List ℕ
chained t i = list_of t.heads (map link t.rows) i

abbrev pub on : List (Linked Packet) → ℕ → ℕ → ℕ
on rows n i = stands (place_at (map place_in rows) n) i

-- row n with another packet and the same link
abbrev pub rewritten : List (Linked Packet) → ℕ → Packet → List (Linked Packet)
rewritten rows n to = set rows (n - 1) (record { item = to; next = (get_or rows (n - 1) blank_row).next })

links_same : (rows : List (Linked Packet)) (n : ℕ) (to : Packet) → map link (rewritten rows n to) ≡ map link rows
links_same rows n to = map_kept rows link (n - 1) _ blank_row refl

-- a field of the packets, where the links may have changed and row n is written
field_set : {F : Type 0} (f : Packet → F) (rows rows' : List (Linked Packet)) (n : ℕ) (to : Packet) → Kept relinked rows rows' → map (λ r. f (held r)) (rewritten rows' n to) ≡ set (map (λ r. f (held r)) rows) (n - 1) (f to)
field_set f rows rows' n to kept =
    let bare : Linked Packet → Linked Packet = λ r. relinked r 0 in
    let same : map (λ r. f (held r)) rows' ≡ map (λ r. f (held r)) rows = sym (map-map (λ r. f (held r)) bare rows') ∙ ap (map (λ r. f (held r))) kept ∙ map-map (λ r. f (held r)) bare rows in
    map-set (λ r. f (held r)) rows' (n - 1) _ ∙ ap (λ z. set z (n - 1) (f to)) same

-- a packet that there is
pub packet_is : (v : View) (n : ℕ) → Row 64 n → packet v n ≡ get_or v.packets (n - 1) (blank Place.Free)
packet_is v n r = cond-true (leb 1 n && leb n 64) _ _ (and_from (leb 1 n) (leb n 64) (le-leb 1 n r.0) (le-leb n 64 r.1))

place_read : (t : PacketTable) (n : ℕ) → Row 64 n → place_at (map place_in t.rows) n ≡ (packet (view t) n).place
place_read t zero r = absurd (omega (arith, r.0))
place_read t (suc k) r =
    let e : suc k - 1 ≡ k = omega arith in
    get_or-map place_in t.rows k blank_row (Place.Hands 0) (omega (arith, r.1, t.sized.0)) ∙ sym (ap (λ p. p.place) (packet_is (view t) (suc k) r ∙ ap (λ i. get_or (map held t.rows) i (blank Place.Free)) e ∙ ListN.get_or-map held t.rows k blank_row))

pub any_held : (test : Packet → Bool) (rows : List (Linked Packet)) → list_any test (map held rows) ≡ list_any (λ r. test (held r)) rows
any_held test [] = refl
any_held test (r ∷ rows) = ap (λ b. test (held r) || b) (any_held test rows)

-- ---- one list

list_is : (t : PacketTable) (i : ℕ) → i < 33 → list (view t) i ≡ chained t i
list_is t i b = lists_at t.heads (map link t.rows) i (omega (arith, t.sized.1))

head_row : (t : PacketTable) (i : ℕ) → get_or t.heads i 0 ≢ 0 → Row 64 (get_or t.heads i 0)
head_row t i ne =
    let r = chain_first (get_or t.heads i 0 ∷ map link t.rows) (t.ends i) ne in
    (r.0, omega (arith, r.1, length-map t.rows link, t.sized.0))

none_there : (t : PacketTable) (i : ℕ) → i < 33 → get_or t.heads i 0 ≡ 0 → list (view t) i ≡ []
none_there t i b e = list_is t i b ∙ list_empty t.heads (map link t.rows) i e

some_there : (t : PacketTable) (i : ℕ) → i < 33 → get_or t.heads i 0 ≢ 0 → list (view t) i ≡ get_or t.heads i 0 ∷ tail (chained t i)
some_there t i b ne = list_is t i b ∙ list_first t.heads (map link t.rows) i (t.ends i) ne

pub filled_is : (t : PacketTable) (i k : ℕ) → k ≡ i → k < 33 → not (eqb (get_or t.heads k 0) 0) ≡ filled (list (view t) i)
filled_is t i k e b =
    ⊎_elim (λ z. ap not (eq-eqb _ 0 z) ∙ sym (ap filled (none_there t k b z))) (λ ne. ap not (ne_eqb _ 0 ne) ∙ sym (ap filled (some_there t k b ne))) (cases_eq (get_or t.heads k 0) 0)
    ∙ ap (λ z. filled (list (view t) z)) e

number_is : {E : Type 0} (n : ℕ) (r : Result ℕ E) → Numbers 64 n r → Row 64 n → result_ok r ≡ Some n
number_is n (Ok x) read row = ap Some read.is
number_is n (Err e) read row = absurd (both_ways false refl (read.when.1 row))

no_number : {E : Type 0} (n : ℕ) (r : Result ℕ E) → Numbers 64 n r → n ≡ 0 → result_ok r ≡ None
no_number n (Ok x) read z = let row = read.when.0 refl in absurd (omega (arith, row.0, z))
no_number n (Err e) read z = refl

-- the head, read as the number of a packet
pub first_is : {E : Type 0} (t : PacketTable) (i k : ℕ) (r : Result ℕ E) → k ≡ i → k < 33 → Numbers 64 (get_or t.heads k 0) r → result_ok r ≡ slice_get (list (view t) i) 0
first_is t i k r e b read =
    ⊎_elim (λ z. no_number _ r read z ∙ sym (ap (λ xs. slice_get xs 0) (none_there t k b z)))
    (λ ne. number_is _ r read (head_row t k ne) ∙ sym (ap (λ xs. slice_get xs 0) (some_there t k b ne))) (cases_eq (get_or t.heads k 0) 0)
    ∙ ap (λ z. slice_get (list (view t) z) 0) e

pub length_is : (t : PacketTable) (i k : ℕ) → k ≡ i → k < 33 → (length (chained t k) ≡ length (list (view t) i)) × (length (list (view t) i) ≤ 64)
length_is t i k e b =
    let is = list_is t i (omega arith) in
    let room = chain_room (get_or t.heads i 0 ∷ map link t.rows) (omega arith) (t.ends i) in
    (ap (λ z. length (chained t z)) e ∙ ap length (sym is), omega (arith, ap length is, room, length-map t.rows link, t.sized.0))

-- the first of a list that has one is a packet
pub first_row : (t : PacketTable) (i : ℕ) → i < 33 → filled (list (view t) i) ≡ true → Row 64 (get_or t.heads i 0)
first_row t i b some = head_row t i (λ z. both_ways _ (ap filled (none_there t i b z)) some)

-- ---- list i changes, and row n is written

module _ (t : PacketTable) (rows' : List (Linked Packet)) (i h n : ℕ) (to : Packet) (xs touched : List ℕ) (len : length rows' ≡ length t.rows) (b : i < 33) (kept : Kept relinked t.rows rows') (becomes : Becomes (get_or t.heads i 0 ∷ map link t.rows) (h ∷ map link rows') xs touched) (row : Row 64 n) (apart : (j k : ℕ) → j ≢ i → 0 < on t.rows k j → times k touched ≡ 0) where
  long : length (map link rows') ≡ length (map link t.rows)
  long = length-map rows' link ∙ len ∙ sym (length-map t.rows link)

  apart' : (j k : ℕ) → j ≢ i → 0 < times k (chained t j) → times k touched ≡ 0
  apart' j k ne m = apart j k ne (let p = t.placed j k in omega (arith, p, m))

  places_set : map place_in (rewritten rows' n to) ≡ set (map place_in t.rows) (n - 1) to.place
  places_set = field_set (λ p. p.place) t.rows rows' n to kept

  on_same : (j : ℕ) → on (rewritten rows' n to) n j ≡ stands to.place j
  on_same j =
      ap (λ ps. stands (place_at ps n) j) places_set ∙ ap (λ p. stands p j) (place_same (map place_in t.rows) n to.place (row.0, omega (arith, row.1, length-map t.rows place_in, t.sized.0)))

  on_other : (k j : ℕ) → k ≢ n → on (rewritten rows' n to) k j ≡ on t.rows k j
  on_other k j ne = ap (λ ps. stands (place_at ps k) j) places_set ∙ ap (λ p. stands p j) (place_other (map place_in t.rows) n to.place k row.0 ne)

  moved_ends : AllEnd (set t.heads i h) (map link (rewritten rows' n to))
  moved_ends =
      subst (AllEnd (set t.heads i h)) (sym (links_same rows' n to)) (changed_ends t.heads (map link t.rows) (map link rows') i h xs touched long (omega (arith, t.sized.1)) t.ends becomes apart')

  moved_shape : (ys : List ℕ) → xs ≡ ys → shape (rewritten rows' n to) (set t.heads i h) ≡ record { packets = set (map held t.rows) (n - 1) to; lists = set (lists t.heads (map link t.rows)) i ys }
  moved_shape ys e =
      let make : List Packet → List (List ℕ) → View = λ ps ls. record { packets = ps; lists = ls } in
      ap₂ make (field_set (λ p. p) t.rows rows' n to kept)
      (ap (lists (set t.heads i h)) (links_same rows' n to) ∙ changed_lists t.heads (map link t.rows) (map link rows') i h xs touched long (omega (arith, t.sized.1)) t.ends becomes apart' ∙ ap (set (lists t.heads (map link t.rows)) i) e)

  moved_placed : ((k : ℕ) → k ≢ n → times k xs ≡ on t.rows k i) → times n xs ≡ stands to.place i → ((j : ℕ) → j ≢ i → on t.rows n j ≡ stands to.place j) → Stand (set t.heads i h) (map link (rewritten rows' n to)) (on (rewritten rows' n to))
  moved_placed others mine elsewhere =
      subst (λ ls. Stand (set t.heads i h) ls (on (rewritten rows' n to))) (sym (links_same rows' n to))
      (changed_stand t.heads (map link t.rows) (map link rows') i h xs touched long (omega (arith, t.sized.1)) t.ends becomes apart' (on (rewritten rows' n to))
      (λ k. ⊎_elim (λ e. ap (λ z. times z xs) e ∙ mine ∙ sym (on_same i) ∙ ap (λ z. on (rewritten rows' n to) z i) (sym e)) (λ ne. others k ne ∙ sym (on_other k i ne)) (cases_eq k n))
      (λ j k nj. t.placed j k ∙ ⊎_elim (λ e. ap (λ z. on t.rows z j) e ∙ elsewhere j nj ∙ sym (on_same j) ∙ ap (λ z. on (rewritten rows' n to) z j) (sym e)) (λ ne. sym (on_other k j ne)) (cases_eq k n)))

-- ---- packet n, in hands, comes last on list i

module _ (t : PacketTable) (i n : ℕ) (to : Packet) (b : i < 33) (row : Row 64 n) (off : handed (packet (view t) n).place ≡ true) (goes : stands to.place i ≡ 1) where
  nowhere : (j : ℕ) → on t.rows n j ≡ 0
  nowhere j = handed_nowhere (place_at (map place_in t.rows) n) j (ap handed (place_read t n row) ∙ off)

  pub put_outside : times n (chained t i) ≡ 0
  put_outside = t.placed i n ∙ nowhere i

  module _ (rows' : List (Linked Packet)) (h : ℕ) (len : length rows' ≡ length t.rows) (kept : Kept relinked t.rows rows') (becomes : Becomes (get_or t.heads i 0 ∷ map link t.rows) (h ∷ map link rows') (chained t i ++ (n ∷ [])) (n ∷ chained t i)) where
    put_apart : (j k : ℕ) → j ≢ i → 0 < on t.rows k j → times k (n ∷ chained t i) ≡ 0
    put_apart j k ne m =
        let p = t.placed i k in
        let o = one_list (place_at (map place_in t.rows) k) j i ne in
        let kn : n ≢ k = λ e. let z = nowhere j in let q = ap (λ x. on t.rows x j) e in omega (arith, z, q, m) in
        let g = hit_other n k kn in
        omega arith

    pub put_ends : AllEnd (set t.heads i h) (map link (rewritten rows' n to))
    put_ends = moved_ends t rows' i h n to _ _ len b kept becomes row put_apart

    pub put_placed : Stand (set t.heads i h) (map link (rewritten rows' n to)) (on (rewritten rows' n to))
    put_placed =
        let xs = chained t i in
        moved_placed t rows' i h n to _ _ len b kept becomes row put_apart
        (λ k ne. let p = t.placed i k in let a = times-append k xs (n ∷ []) in let g = hit_other n k (λ e. ne (sym e)) in omega arith)
        (let z = put_outside in let a = times-append n xs (n ∷ []) in let g = hit_same n n refl in omega arith)
        (λ j ne. let z = nowhere j in let o = one_list to.place j i ne in omega arith)

    pub put_shape : shape (rewritten rows' n to) (set t.heads i h) ≡ put_last (view t) i n to
    put_shape = moved_shape t rows' i h n to _ _ len b kept becomes row put_apart _ (ap (λ z. z ++ (n ∷ [])) (sym (list_is t i b)))

-- the same where the list, its head and the packet go by other names too
pub put_written : (t : PacketTable) (rows' : List (Linked Packet)) (i k n m head h : ℕ) (to : Packet) → k ≡ i → k < 33 → m ≡ n → Row 64 m → head ≡ get_or t.heads i 0 → handed (packet (view t) n).place ≡ true → stands to.place i ≡ 1 → length rows' ≡ length t.rows → Kept relinked t.rows rows' → Becomes (head ∷ map link t.rows) (h ∷ map link rows') (chain (head ∷ map link t.rows) ++ (m ∷ [])) (m ∷ chain (head ∷ map link t.rows)) → AllEnd (set t.heads k h) (map link (rewritten rows' m to)) × Stand (set t.heads k h) (map link (rewritten rows' m to)) (on (rewritten rows' m to)) × (shape (rewritten rows' m to) (set t.heads k h) ≡ put_last (view t) i n to)
put_written t rows' i k n m head h to ki b mn row is off goes len kept becomes =
    let off' : handed (packet (view t) m).place ≡ true = ap (λ z. handed (packet (view t) z).place) mn ∙ off in
    let goes' : stands to.place k ≡ 1 = ap (stands to.place) ki ∙ goes in
    let at : head ≡ get_or t.heads k 0 = is ∙ ap (λ z. get_or t.heads z 0) (sym ki) in
    let becomes' = subst (λ z. Becomes (z ∷ map link t.rows) (h ∷ map link rows') (chain (z ∷ map link t.rows) ++ (m ∷ [])) (m ∷ chain (z ∷ map link t.rows))) at becomes in (
      put_ends t k m to b row off' goes' rows' h len kept becomes',
      put_placed t k m to b row off' goes' rows' h len kept becomes',
      put_shape t k m to b row off' goes' rows' h len kept becomes' ∙ ap₂ (λ x y. put_last (view t) x y to) ki mn,
    )

-- ---- the first of list i goes into hands

module _ (t : PacketTable) (rows' : List (Linked Packet)) (i h : ℕ) (to : Packet) (len : length rows' ≡ length t.rows) (b : i < 33) (some : filled (list (view t) i) ≡ true) (off : handed to.place ≡ true) (kept : Kept relinked t.rows rows') (becomes : Becomes (get_or t.heads i 0 ∷ map link t.rows) (h ∷ map link rows') (tail (chained t i)) (chained t i)) where
  row : Row 64 (get_or t.heads i 0)
  row = first_row t i b some

  taken_apart : (j k : ℕ) → j ≢ i → 0 < on t.rows k j → times k (chained t i) ≡ 0
  taken_apart j k ne m = let p = t.placed i k in let o = one_list (place_at (map place_in t.rows) k) j i ne in omega arith

  was : chained t i ≡ get_or t.heads i 0 ∷ tail (chained t i)
  was = list_first t.heads (map link t.rows) i (t.ends i) (λ e. let r = row.0 in omega (arith, e, r))

  pub take_ends : AllEnd (set t.heads i h) (map link (rewritten rows' (get_or t.heads i 0) to))
  take_ends = moved_ends t rows' i h _ to _ _ len b kept becomes row taken_apart

  pub take_placed : Stand (set t.heads i h) (map link (rewritten rows' (get_or t.heads i 0) to)) (on (rewritten rows' (get_or t.heads i 0) to))
  take_placed =
      let n = get_or t.heads i 0 in
      let one = λ (k : ℕ). one_list (place_at (map place_in t.rows) k) in
      let here = t.placed i n in
      let split = ap (times n) was in
      let g = hit_same n n refl in
      moved_placed t rows' i h _ to _ _ len b kept becomes row taken_apart
      (λ k ne. let p = t.placed i k in let s = ap (times k) was in let g = hit_other n k (λ e. ne (sym e)) in omega arith)
      (let o = one n i (suc i) (λ e. omega arith) in let z = handed_nowhere to.place i off in omega arith)
      (λ j ne. let o = one n j i ne in let z = handed_nowhere to.place j off in omega arith)

  pub take_shape : shape (rewritten rows' (get_or t.heads i 0) to) (set t.heads i h) ≡ took_first (view t) i to
  take_shape =
      moved_shape t rows' i h _ to _ _ len b kept becomes row taken_apart _ (ap tail (sym (list_is t i b)))
      ∙ ap (λ (k : ℕ). record { packets = set (map held t.rows) (k - 1) to; lists = set (lists t.heads (map link t.rows)) i (tail (list (view t) i)) }) (chain_head (get_or t.heads i 0 ∷ map link t.rows) (t.ends i) ∙ ap first (sym (list_is t i b)))

-- ---- for what is built on the table

-- every packet stands on the list of its place, and on no other
pub table_placed : (t : PacketTable) (i n : ℕ) → times n (list (view t) i) ≡ stands (place_at (map (λ p. p.place) (view t).packets) n) i
table_placed t i n =
    ap (times n) (view_list t i) ∙ t.placed i n ∙ ap (λ ps. stands (place_at ps n) i) (sym (map-map (λ p. p.place) held t.rows))
  where
    view_list : (t : PacketTable) (i : ℕ) → list (view t) i ≡ list_of t.heads (map link t.rows) i
    view_list t i =
        ⊎_elim (λ h. lists_at t.heads (map link t.rows) i h)
        (λ h. get_or_past (lists t.heads (map link t.rows)) i [] (let l = length-map t.heads (λ g. chain (g ∷ map link t.rows)) in omega arith) ∙ sym (list_empty t.heads (map link t.rows) i (get_or_past t.heads i 0 h)))
        (cases_lt i (length t.heads))
