-- Two frames made here with the same octets were made of the same parts. Assumes nothing.
use mathlib.Core.Path.{◌≡◌, sym, ap, ◌∙◌}
use mathlib.Core.List.{List}
use Prim.Native.Nat.{ℕ}
use lib.ListN.{length}
use Rattle.frame.specs.declared.Kind.{Kind}
use Rattle.frame.specs.declared.Way.TheVariants.{Request}
use Rattle.frame.specs.declared.Frame.{Frame}
use Rattle.frame.specs.Judged.{parts_of, data_of}
use Rattle.frame.specs.Sealed.{frame_of}
use Rattle.frame.specs.Shape.{frame_with}
use Rattle.frame.proofs.ReadBack.{request-parts, request-data}

pub frame-injective : (k k' : Kind) (adr adr' ctl ctl' : ℕ) (body body' : List ℕ)
    → frame_of k adr ctl body ≡ frame_of k' adr' ctl' body'
    → (k ≡ k') × (adr ≡ adr') × (ctl ≡ ctl') × (body ≡ body')
frame-injective k k' adr adr' ctl ctl' body body' e =
    let parts : frame_with Request k adr ctl (length body) ≡ frame_with Request k' adr' ctl' (length body') =
    sym (request-parts k adr ctl body) ∙ ap (parts_of Request) e ∙ request-parts k' adr' ctl' body' in
    let bodies : body ≡ body' =
    sym (request-data k adr ctl body) ∙ ap (λ (f : List ℕ). data_of (parts_of Request f) f) e ∙ request-data k' adr' ctl' body' in
    (ap (λ (p : Frame). p.kind) parts, ap (λ (p : Frame). p.address) parts, ap (λ (p : Frame). p.control) parts, bodies)
