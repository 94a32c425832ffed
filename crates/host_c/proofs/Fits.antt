-- The number of every answer that a call of the host side gives fits 64 bits. Assumes nothing.
use Rattle.std.specs.Prelude.{Result}
use Prim.Native.Nat.{ℕ, ◌^◌, ◌≤◌, ◌<◌}
use mathlib.Core.Path.{◌≡◌, refl}
use mathlib.Core.Bool.{Bool, false}
use mathlib.Core.List.{List, []}
use mathlib.Core.Option.{Option, none, some}
use native.Mathlib.Omega.{arith}
use lib.ListN.{length}
use lib.Dec.{ltb, lit<}
use borrow.Author.Tests.{ltb-false}
use Rattle.octets.specs.Tests.{first}
use Rattle.octets.specs.Numbers.{Octets}
use Rattle.octets.specs.Each.{All}
use Rattle.octets.proofs.Tests.{none-head, none_tail}
use Rattle.octets.proofs.Each.{all_append, given-each}
use Rattle.frame.specs.declared.Refusal.{Refusal}
use Rattle.frame.specs.declared.Kind.{Kind}
use Rattle.frame.specs.declared.Kind.TheVariants.{Standard, Advanced}
use Rattle.frame.specs.declared.Way.TheVariants.{Reply}
use Rattle.frame.specs.Shape.{shape_of}
use Rattle.frame.proofs.Bounds.{faults-small}
use Rattle.frame.specs.Finding.{finding}
use Rattle.frame.specs.Judged.{kind_of, faults, parts_of}
use Rattle.requests.specs.declared.Request.{Request}
use Rattle.reader.specs.declared.Told.{Told}
use Rattle.requests.specs.Request.{request_frame}
use Rattle.maker.specs.Maker.{maker_refusals, Requested}
use Rattle.reader.specs.Reader.{told_of, reader_refusals, read_as}
use Rattle.rules.specs.Line.{line}
use Rattle.lines.specs.Lines.{line_refusals, lines_of, lines_refusals}
use Rattle.codes.specs.Codes.{written_code}
use Rattle.codes.proofs.Fits.{wrote-fits}
use Rattle.host_c.specs.Coded.{read_code, not_long, line_tests, LineWrote, lines_tests, LinesWrote}

-- ---- octets in a lent output

-- the room was tested last
room-there : (t out : List ℕ) → length out < 2 ^ 63 → ltb (length out) (length t) ≡ false → length t < 2 ^ 63
room-there t out h e = omega (arith, ltb-false (length out) (length t) e)

pub framed-fits : (q : Request) (out : List ℕ) (a : Result ℕ Refusal) (out' : List ℕ) → length out < 2 ^ 63 → Requested q out a out' → written_code a < 2 ^ 64
unfolding maker_refusals
framed-fits q out a out' h w =
    wrote-fits (first (maker_refusals q (length out))) (request_frame q) out a out'
    (λ e. room-there (request_frame q) out h (none-head 7 _ [] (none_tail 6 _ _ (none_tail 5 _ _ e)))) w

pub line-fits : (block sighted out : List ℕ) (a : Result ℕ Refusal) (out' : List ℕ) → length out < 2 ^ 63 → LineWrote block sighted out a out' → written_code a < 2 ^ 64
unfolding line_refusals not_long
line-fits block sighted out a out' h w =
    wrote-fits (first (line_tests block sighted out)) (line block sighted) out a out'
    (λ e. room-there (line block sighted) out h (none-head 7 _ [] (none_tail 6 _ _ (none_tail 6 _ _ (none_tail 6 _ _ e))))) w

pub lines-fit : (block sent out : List ℕ) (a : Result ℕ Refusal) (out' : List ℕ) → length out < 2 ^ 63 → LinesWrote block sent out a out' → written_code a < 2 ^ 64
unfolding lines_refusals not_long
lines-fit block sent out a out' h w =
    wrote-fits (first (lines_tests block sent out)) (lines_of block sent) out a out'
    (λ e. room-there (lines_of block sent) out h (none-head 7 _ [] (none_tail 6 _ _ (none_tail 6 _ _ (none_tail 6 _ _ e))))) w

-- ---- the reader

-- its refusals are numbers of the paper
reader-small : (q : Request) (s : List ℕ) → All (λ (t : ℕ × Bool). t.0 < 64) (reader_refusals q s)
unfolding reader_refusals
reader-small q s = all_append (λ (t : ℕ × Bool). t.0 < 64) (faults Reply s) _ (faults-small Reply s) (lit< tt, tt)

finding-fits : (o : Option ℕ) (t : Told) → ((n : ℕ) → o ≡ some n → n < 64) → t.status < 256 → t.start ≤ 6 → t.len < 2 ^ 63 → read_code (finding o t) < 2 ^ 64
finding-fits none t h a b c = omega arith
finding-fits (some n) t h a b c = omega (arith, h n refl)

pub lead-small : (k : Kind) → (shape_of k).lead ≤ 3
lead-small Standard = omega arith
lead-small Advanced = omega arith

pub read_fits : (q : Request) (s : List ℕ) → Octets s → length s < 2 ^ 63 → read_code (read_as q s) < 2 ^ 64
unfolding read_as told_of parts_of
read_fits q s o h =
    finding-fits (first (reader_refusals q s)) _ (λ n e. given-each (λ (k : ℕ). k < 64) (reader_refusals q s) n (reader-small q s) e) (o _) (omega (arith, lead-small (kind_of s))) (omega arith)
