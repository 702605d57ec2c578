-- The numbers of the reasons why a command or a document is refused.
use Rattle.std.specs.Prelude.{ℕ}

abbrev pub syntax : ℕ
syntax = 1

abbrev pub no_object : ℕ
no_object = 2

abbrev pub no_property : ℕ
no_property = 3

abbrev pub name_taken : ℕ
name_taken = 4

abbrev pub bad_name : ℕ
bad_name = 5

abbrev pub label_taken : ℕ
label_taken = 6

abbrev pub bad_label : ℕ
bad_label = 7

abbrev pub read_only : ℕ
read_only = 8

abbrev pub wrong_type : ℕ
wrong_type = 9

abbrev pub out_of_range : ℕ
out_of_range = 10

abbrev pub expr_syntax : ℕ
expr_syntax = 11

abbrev pub unknown_reference : ℕ
unknown_reference = 12

abbrev pub not_dynamic : ℕ
not_dynamic = 13

abbrev pub cycle : ℕ
cycle = 14

abbrev pub unit_mismatch : ℕ
unit_mismatch = 15

abbrev pub kind_mismatch : ℕ
kind_mismatch = 16

abbrev pub exponent_range : ℕ
exponent_range = 17

abbrev pub not_overridden : ℕ
not_overridden = 18

abbrev pub sheet_edge : ℕ
sheet_edge = 19

abbrev pub cell_taken : ℕ
cell_taken = 20

abbrev pub bad_alias : ℕ
bad_alias = 21

abbrev pub alias_taken : ℕ
alias_taken = 22

abbrev pub link_kind : ℕ
link_kind = 23

abbrev pub transaction_open : ℕ
transaction_open = 24

abbrev pub no_transaction : ℕ
no_transaction = 25

abbrev pub nothing_to_undo : ℕ
nothing_to_undo = 26

abbrev pub nothing_to_redo : ℕ
nothing_to_redo = 27

abbrev pub not_recomputed : ℕ
not_recomputed = 28

abbrev pub too_many : ℕ
too_many = 29

abbrev pub no_feature : ℕ
no_feature = 30

abbrev pub not_built : ℕ
not_built = 99
