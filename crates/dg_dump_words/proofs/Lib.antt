mod OptionsBefore
