mod OtherLines
