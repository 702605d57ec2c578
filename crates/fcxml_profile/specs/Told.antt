-- Private: only contracts inside this crate cite this.
-- Items as the code has them.
use Rattle.std.specs.Prelude.{ℕ, ◌-◌, List, length}
use Rattle.std.specs.Borrow.{Bor}
use Rattle.fcxml_profile.specs.Items.{Tag, Item, declaration, comment, opening, closing, run, attributes_at}
use Rattle.fcxml_profile.specs.declared.items.RawTag as t
use Rattle.fcxml_profile.specs.declared.items.Item as i
use Rattle.fcxml_profile.specs.declared.items.Item.TheVariants as item

-- a tag of a document of length n, and the place behind it
abbrev pub tag_told : ℕ → t.RawTag → ℕ → Tag
tag_told n t end = record { place = t.place; name = t.name.now; attributes = (attributes_at n t.behind_name.now).0; empty = t.empty; end = end }

-- an item of such a document, and the place behind it
abbrev pub item_told : ℕ → i.Item → ℕ → Item
item_told n item.Declaration end = declaration
item_told n item.Comment end = comment
item_told n (item.Opening t) end = opening (tag_told n t end)
item_told n (item.Closing name) end = closing name.now end
item_told n (item.Run text) end = run text.now

-- an item, and what follows it
abbrev pub cut_told : ℕ → i.Item × Bor (List ℕ) → Item × List ℕ
cut_told n cut = (item_told n cut.0 (n - length cut.1.now), cut.1.now)
