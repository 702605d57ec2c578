use Rattle.std.proofs.Common.{◌≡◌, ◌+◌, ◌-◌, ◌++◌, length, sym, ap, ◌∙◌, arith, rules}
use Rattle.std.specs.Prelude.{encode_utf8, string_bytes}
use Rattle.fcxml_profile.specs.Items.{Source}
use Rattle.fcxml_profile.specs.References.{read}
use Rattle.fcxml_profile.proofs.ReferenceLemmas.{read-more, read-stops, read-ends, meaning_of-le, length-behind}
use Rattle.fcxml_profile.proofs.token.AttributeText.read.Goals as goal

pub returns-in_default : goal.returns-in_default
returns-in_default c =
    let s = c.args.self.now in
    let rest = c.loop-first.rest.now in
    read-ends (string_bytes c.loop-first.value) (s.place + length s.text) rest (read s)
    (ap length (sym c.chars-characters.ensures.rest) ∙ c.in_default.ensures.steps.0.0) c.loop-first.invariant.so_far

pub returns-in_default-meaning : goal.returns-in_default-meaning
returns-in_default-meaning c =
    let s = c.args.self.now in
    let rest = c.loop-first.rest.now in
    let tail = c.as_str.result.now in
    let split : rest ≡ encode_utf8 c.in-Some.first ++ tail = sym c.chars-characters.ensures.rest ∙ c.in-Some.ensures.steps.0 ∙ ap (λ t. encode_utf8 c.in-Some.first ++ t) (sym c.as_str.ensures) in
    let place = ap (λ (v : Source). v.place) c.self.view_is in
    let text = ap (λ (v : Source). length v.text) c.self.view_is in
    read-stops (string_bytes c.loop-first.value) (s.place + length s.text) c.in-Some.first (c.self.inside.place + (length c.self.inside.text.now - length rest)) rest tail (read s)
    split (sym c.in_default-meaning.ensures) (omega arith) c.loop-first.invariant.so_far

pub loop-first-smaller : goal.loop-first-smaller
loop-first-smaller c =
    let rest = c.loop-first.rest.now in
    let tail = c.as_str.result.now in
    let split : rest ≡ encode_utf8 c.in-Some.first ++ tail = sym c.chars-characters.ensures.rest ∙ c.in-Some.ensures.steps.0 ∙ ap (λ t. encode_utf8 c.in-Some.first ++ t) (sym c.as_str.ensures) in
    let most = meaning_of-le c.in-Some.first tail (encode_utf8 c.in-Some-meaning.character, c.in-Some-meaning.after.now) (sym c.in-Some-meaning.ensures) in
    let some = length-behind c.in-Some.first rest tail split in
    omega arith

pub loop-first-preserved : goal.loop-first-preserved
loop-first-preserved c =
    let s = c.args.self.now in
    let rest = c.loop-first.rest.now in
    let tail = c.as_str.result.now in
    let split : rest ≡ encode_utf8 c.in-Some.first ++ tail = sym c.chars-characters.ensures.rest ∙ c.in-Some.ensures.steps.0 ∙ ap (λ t. encode_utf8 c.in-Some.first ++ t) (sym c.as_str.ensures) in
    let found = sym c.in-Some-meaning.ensures in
    let most = meaning_of-le c.in-Some.first tail (encode_utf8 c.in-Some-meaning.character, c.in-Some-meaning.after.now) found in
    let some = length-behind c.in-Some.first rest tail split in
    record {
      text = search rules;
      within = omega arith;
      so_far = rw c.in_ok-push.ensures.bytes
          (read-more (string_bytes c.loop-first.value) (s.place + length s.text) c.in-Some.first rest tail (encode_utf8 c.in-Some-meaning.character, c.in-Some-meaning.after.now) (read s)
          split found c.loop-first.invariant.so_far);
    }
