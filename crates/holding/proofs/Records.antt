-- The records of a desk in the entries of a sound store: lent, gathered, removed, added. Assumes nothing.
use Prim.Native.Nat.{ℕ, ◌+◌, ◌-◌, ◌*◌, ◌≤◌, ◌<◌}
use mathlib.Core.Path.{◌≡◌, sym, ap, ◌∙◌}
use mathlib.Core.Bool.{true}
use mathlib.Core.List.{List, [], ◌∷◌, ◌++◌}
use native.Mathlib.Nat.{add-zero}
use native.Mathlib.Omega.{arith}
use lib.Dec.{lit<}
use lib.Seq.{length-take-le}
use lib.ListN.{length, take, drop, length-take, length-drop}
use borrow.Author.Tests.{lt-ltb}
use Rattle.octets.specs.Parts.{part, put, joined}
use Rattle.octets.specs.Numbers.{octets}
use Rattle.octets.proofs.Puts.{put-length, put-append}
use Rattle.octets.proofs.Lent.{put-mid, put-lent}
use Rattle.octets.proofs.Numbers.{octets-length}
use Rattle.table.specs.Entries.{record_width, width, desks, share, entry_count, entries, records_of, without, owners_below}
use Rattle.table.proofs.Room.{room-entry}
use Rattle.table.proofs.Changes.{remove-fewer, remove-owners, remove-own, remove-others, gather-size, append-owners, append-own, append-others}
use Rattle.rules.specs.Desk.{Desk}
use Rattle.rules.specs.Records.{counted, with_record}
use Rattle.rules.specs.Legal.{record_legal, desk_legal}
use Rattle.rules.proofs.Facts.{RecordLegal, DeskLegal, record-facts, desk-facts}
use Rattle.rules.proofs.Tables.{recorded-legal}
use Rattle.rules.proofs.Desks.{table-legal}
use Rattle.store.specs.Layout.{store_size, size_of, header, start_of, used_of, area, recounted, row_of, entries_area}
use Rattle.store.specs.View.{desk_of, desk_in, in_use}
use Rattle.store.specs.Sound.{sound}
use Rattle.store.proofs.Changes.{Sound, sound-facts, area-length}
use Rattle.store.proofs.LentAreas.{areas-at, areas-header, entries-lent}
use Rattle.views.proofs.LegalView.{few-records}
use Rattle.doings.specs.Doing.{on_table}
use Rattle.doings.proofs.Meaning.{recorded, held-anew}
use Rattle.keeping.specs.Kept.{kept, Says, with_held}
use Rattle.keeping.proofs.Rows.{kept-is, kept-legal, entries-say}

in_use_lem : (s : List ℕ) → in_use s ≡ entries (used_of (header s)) (area s entries_area)
in_use_lem s = rw (areas-header s, areas-at s entries_area (lit< tt))

module _ (s : List ℕ) (e : sound s ≡ true) where
  facts : Sound s
  facts = sound-facts s e

  -- the area of the entries, and how many are in use
  abbrev there : List ℕ
  there = area s entries_area

  abbrev used : ℕ
  used = used_of (header s)

  there-size : length there ≡ size_of entries_area
  there-size = area-length s facts entries_area (lit< tt)

  use-fits : width * used ≤ length there
  use-fits = omega (arith, facts.head.used, there-size)

  owners : owners_below desks (entries used there) ≡ true
  owners = rw in_use_lem at facts.owners

  shares : (c : ℕ) → c < desks → length (records_of c (entries used there)) ≤ share
  shares c l = rw in_use_lem at (few-records s facts c l)

  module _ (d : ℕ) (h : d < desks) where
    abbrev own : List (List ℕ)
    own = records_of d (in_use s)

    held-is : (kept d s).table.held ≡ own
    unfolding desk_of
    held-is = ap (λ (k : Desk). k.table.held) (kept-is s e d h)

    own_is : records_of d (entries used there) ≡ (kept d s).table.held
    own_is = ap (records_of d) (sym (in_use_lem s)) ∙ sym held-is

    pub few-held : length (kept d s).table.held ≤ share
    few-held = (kept-legal s e d h).table.few

    -- the first m records, one after the other
    told-length : (m : ℕ) → m ≤ length own → length (joined (take m own)) ≡ record_width * m
    told-length m few =
        let n : length (take m own) ≡ m = length-take-le m own few in
        (rw (← in_use_lem s) at (gather-size used d 0 there use-fits m)) ∙ ap (λ (k : ℕ). record_width * k) n

    -- ---- removed

    pub removes : (k : ℕ) → desk_legal (with_held (drop k (kept d s).table.held) (kept d s)) ≡ true
        → Says d (with_held (drop k (kept d s).table.held) (kept d s)) s
        (recounted (length (without d k (entries used there))) (put (start_of (header s) entries_area) (put 0 (joined (without d k (entries used there))) there) s))
    removes k p =
        let es = without d k (entries used there) in
        entries-say s e d h (put 0 (joined es) there) (length es) (with_held (drop k (kept d s).table.held) (kept d s))
        (put-length 0 (joined es) there ∙ there-size) (omega (arith, remove-fewer used d k there use-fits, facts.head.used))
        (remove-owners used d k there use-fits owners)
        (λ c b ne. remove-others used d k there use-fits c ne ∙ ap (records_of c) (sym (in_use_lem s)))
        (ap (desk_in (row_of d s)) (remove-own used d k there use-fits ∙ ap (drop k) own_is)
        ∙ held-anew (row_of d s) own (drop k (kept d s).table.held) ∙ ap (with_held (drop k (kept d s).table.held)) (sym (kept-is s e d h)))
        (desk-facts _ p)

    -- ---- added, where fewer than its share are held

    module _ (few : length (kept d s).table.held < share) where
      few-there : length (records_of d (entries used there)) < share
      few-there = rw own_is few

      pub has_room : used < entry_count
      has_room = room-entry used d there owners shares h few-there

      room-there : width * (used + 1) ≤ length there
      room-there = omega (arith, has_room, there-size)

      pub adds : (r : List ℕ) → record_legal r ≡ true
          → Says d (on_table (with_record r) (kept d s)) s (recounted (used + 1) (put (start_of (header s) entries_area) (put (width * used) (d ∷ r) there) s))
      adds r q =
          let legal : RecordLegal r = record-facts r q in
          let p : DeskLegal (kept d s) = kept-legal s e d h in
          entries-say s e d h (put (width * used) (d ∷ r) there) (used + 1) (on_table (with_record r) (kept d s))
          (put-length (width * used) (d ∷ r) there ∙ there-size) (omega (arith, has_room))
          (append-owners used d r there legal.size room-there owners h)
          (λ c b ne. append-others used d r there legal.size room-there c ne ∙ ap (records_of c) (sym (in_use_lem s)))
          (ap (desk_in (row_of d s)) (append-own used d r there legal.size room-there ∙ ap (λ (es : List (List ℕ)). records_of d es ++ r ∷ []) (sym (in_use_lem s)))
          ∙ recorded (row_of d s) own r ∙ ap (on_table (with_record r)) (sym (kept-is s e d h)))
          (table-legal (kept d s) p _ (recorded-legal (kept d s).table r p.table legal (lt-ltb _ share few)))

  -- ---- the entries, lent: at is where they begin, n how many are in use

  module _ (at n : ℕ) (q : at ≡ start_of (header s) entries_area) (u : n ≡ used) where
    abbrev lent : List ℕ
    lent = take (at + width * entry_count - at) (drop at s)

    pub table-inside : at + width * entry_count ≤ length s
    table-inside = omega (arith, facts.head.within entries_area (lit< tt), facts.size)

    lent-size : length lent ≡ width * entry_count
    lent-size = simp (length-take, length-drop) (omega (arith, table-inside))

    pub table_fits : width * n ≤ length lent
    table_fits = omega (arith, lent-size, facts.head.used)

    lent_is : lent ≡ there
    unfolding area part
    lent_is = let m : at + width * entry_count - at ≡ width * entry_count = omega arith in rw (m, q)

    pub table-lent : entries n lent ≡ in_use s
    table-lent = entries-lent s at n q u

    -- they came back as ys, which f made of them
    back : (f : List ℕ → List ℕ) (ys : List ℕ) → ys ≡ f lent → length (f lent) ≡ length lent
        → take at s ++ (ys ++ drop (at + width * entry_count - at) (drop at s)) ≡ put (start_of (header s) entries_area) (f there) s
    back f ys y l =
        put-mid at (at + width * entry_count - at) ys s (ap length y ∙ l) (omega (arith, table-inside)) ∙ rw (y, lent_is, q)

    pub back-size : (i : ℕ) (xs ys : List ℕ) → ys ≡ put i xs lent → length (take at s ++ (ys ++ drop (at + width * entry_count - at) (drop at s))) ≡ store_size
    back-size i xs ys y = ap length (back (put i xs) ys y (put-length i xs lent)) ∙ put-length _ _ s ∙ facts.size

    module _ (d : ℕ) (h : d < desks) where
      pub count-lent : length (records_of d (entries n lent)) ≡ length (kept d s).table.held
      count-lent = ap (λ (es : List (List ℕ)). length (records_of d es)) table-lent ∙ ap length (sym (held-is d h))

      pub fewer-left : (k : ℕ) → length (without d k (entries n lent)) ≤ entry_count
      fewer-left k = omega (arith, remove-fewer n d k lent table_fits, facts.head.used)

      pub removed-says : (k left : ℕ) (ys : List ℕ) → left ≡ length (without d k (entries n lent)) → ys ≡ put 0 (joined (without d k (entries n lent))) lent
          → desk_legal (with_held (drop k (kept d s).table.held) (kept d s)) ≡ true
          → Says d (with_held (drop k (kept d s).table.held) (kept d s)) s (recounted left (take at s ++ (ys ++ drop (at + width * entry_count - at) (drop at s))))
      removed-says k left ys l y p =
          rw (back (put 0 (joined (without d k (entries n lent)))) ys y (put-length 0 _ lent), l, lent_is, u) (removes d h k p)

      pub added-says : (few : length (kept d s).table.held < share) (r ys : List ℕ) → record_legal r ≡ true → ys ≡ put (width * n) (d ∷ r) lent
          → Says d (on_table (with_record r) (kept d s)) s (recounted (n + 1) (take at s ++ (ys ++ drop (at + width * entry_count - at) (drop at s))))
      added-says few r ys p y = rw (back (put (width * n) (d ∷ r)) ys y (put-length (width * n) (d ∷ r) lent), u) (adds d h few r p)

      -- the count m stands in the output already; the first m records come behind it
      pub counted_back : (m to : ℕ) (out one ys : List ℕ) → m ≤ length (kept d s).table.held → to + 2 + record_width * m ≤ length out → one ≡ put to (octets 2 m) out
          → ys ≡ put 0 (joined (take m (records_of d (entries n lent)))) (take (length one - (to + 2)) (drop (to + 2) one))
          → take (to + 2) one ++ (ys ++ drop (length one - (to + 2)) (drop (to + 2) one)) ≡ put to (counted (take m (kept d s).table.held)) out
      unfolding counted
      counted_back m to out one ys few room o y =
          let xs = joined (take m (records_of d (entries n lent))) in
          let some : m ≤ length (records_of d (in_use s)) = rw (← held-is d h) few in
          let count : length (take m (records_of d (in_use s))) ≡ m = length-take-le m (records_of d (in_use s)) some in
          let size : length xs ≡ record_width * m = rw table-lent (told-length d h m some) in
          let same : length one ≡ length out = ap length o ∙ put-length to (octets 2 m) out in
          put-lent (to + 2) (length one - (to + 2)) 0 xs ys one y (omega arith) (omega arith)
          ∙ rw (add-zero, o, table-lent, held-is d h, count, put-append to (octets 2 m), octets-length 2 m)
